-- One port more that is in order.
use Rattle.std.proofs.Common.{◌≡◌, ℕ, ◌<◌, ◌+◌, List, inl, inr, sym, ap, ◌∙◌, subst, arith}
use Rattle.std.specs.Prelude.{slice_index_or}
use Rattle.std.proofs.lemmas.Bool.{cases_eq}
use Rattle.sja_rings.specs.declared.node_driver.NodeDriver.{NodeDriver}
use Rattle.sja_regs.specs.declared.registers.Registers.{Registers}
use Rattle.sja_thread_promises.specs.declared.port_act.PortAct.{PortAct}
use Rattle.sja_thread_promises.specs.declared.port_update.PortUpdate.{PortUpdate}
use Rattle.sja_threads.specs.declared.handover.Handover.{Handover}
use Rattle.sja_thread_promises.specs.Ordering.{LedBy}
use Rattle.sja_threads.specs.Inside.Boards.{turns_at}
use Rattle.sja_threads.specs.Inside.EndsInOrder.{AreInOrder}

pub order_more : (version n : ℕ) (turns : List (List PortUpdate)) (ws : List (Handover NodeDriver))
    (ts : List PortUpdate)
    (w : Handover NodeDriver) → AreInOrder version n turns ws → turns_at turns n ≡ ts →
    ((d : Handover NodeDriver) → slice_index_or ws n d ≡ w) → (p : Registers) × LedBy version ts w.done.list p →
    AreInOrder version (n + 1) turns ws
order_more version n turns ws ts w so told there led node d less = elim (cases_eq node n) [
  | inl is ↦
      let turns_are : turns_at turns node ≡ ts = ap (λ (k : ℕ). turns_at turns k) is ∙ told in
      let acts_are : (slice_index_or ws node d).done.list ≡ w.done.list =
      ap (λ (k : ℕ). (slice_index_or ws k d).done.list) is ∙ ap (λ (x : Handover NodeDriver). x.done.list)
      (there d) in (
        led.0,
        subst (λ (t : List PortUpdate). LedBy version t (slice_index_or ws node d).done.list led.0) (sym turns_are)
            (subst (λ (l : List PortAct). LedBy version ts l led.0) (sym acts_are) led.1),
      )
  | inr other ↦ so node d (omega (arith, less, other))
]
