-- The bus refuses nothing that the driver of a node gives.
use Rattle.std.proofs.Common.{◌≡◌, ℕ, ◌+◌, ◌≤◌, Bool, List, [], ◌∷◌, ◌++◌, length, sym}
use Rattle.std.proofs.Common.{ap, ◌∙◌, subst, append-nil, arith}
use Rattle.sja_journal.specs.declared.up.Up.{Up}
use Rattle.sja_journal.specs.declared.up.Up.TheVariants.{Credit}
use Rattle.sja_journal.specs.declared.entry.Entry.{Entry}
use Rattle.sja_link.specs.Deques.{Deques, Lies}
use Rattle.sja_journal.specs.Parts.{part}
use Rattle.sja_journal.specs.Carried.{taken_of}
use Rattle.sja_journal.specs.Places.{place_of}
use Rattle.sja_journal.specs.Verdicts.{IsLawful as IsLawfulJournal}
use Rattle.sja_journal.specs.Written.{Room, room_in}
use Rattle.sja_journal.proofs.JournalEntries.Rooms.{HasFree}
use Rattle.sja_journal.specs.declared.bus_fault.BusFault.{BusFault}
use Rattle.sja_journal.specs.Links.{stops_of}
use Rattle.sja_journal.specs.OutOfOrder.{IsBadCredit}
use Rattle.sja_bus_rules.specs.Reasons.{IsRefusedFor, RefusesItem}
use Rattle.sja_regs.specs.declared.registers.Registers.{Registers}
use Rattle.sja_steps.specs.declared.step.Step.{Step}
use Rattle.sja_steps.specs.declared.step_answer.StepAnswer.{StepAnswer}
use Rattle.sja_driver.specs.declared.logged_driver.LoggedDriver.{LoggedDriver}
use Rattle.sja_driver.specs.declared.release.Release.{Release}
use Rattle.sja_driver.specs.TypedActs.{TypedAct, opens_by, opened_by, is_active, given_in, acts_of}
use Rattle.sja_driver.specs.Holding.{Holds, HoldsBy}
use Rattle.sja_driver.specs.LoggedDrivers.{driver_of, log_of}
use Rattle.sja_driver.specs.Logs.{Traces, acts_by}
use Rattle.sja_driver.specs.Tries.{Tried}
use Rattle.sja_driver.proofs.Trace.Stepping.{given_taken}
use Rattle.sja_promises.specs.Nodes.{IsNode}
use Rattle.std.specs.Prelude.{Some, None}
use Rattle.sja_driver.proofs.TypedActs.Credits.{credit_lengths, credit_right}
use Rattle.sja_promises.proofs.OneNode.InOrder.{never_refused}
use Rattle.sja_journal.proofs.Ledger.Small.{no_item}
use Rattle.sja_link.proofs.QueuedLinks.Ends.{ends}
use Rattle.sja_promises.proofs.OneNode.Refused.{refused_is}
use Rattle.sja_driver.proofs.OneNode.Room.{has_room}
use Rattle.sja_journal.proofs.Growing.Taking.{no_wait}
use Rattle.sja_promises.proofs.OneNode.Trying.{StepsHere}
use Rattle.sja_promises.proofs.Trace.TbsAndAbort.{tbs_right}
use Rattle.sja_promises.proofs.OneNode.Done.{at_most_one, is_read, doing}
use Rattle.sja_promises.proofs.OneNode.Turned.{is_unmet}

-- ---- a node whose driver gave nothing

pub none_taken : {j k : List Entry} {acts : List TypedAct} {releases : List Release} {left : List (List (List ℕ))}
    {ended : ℕ} {off : Bool} {links after : Deques} {room : Room} {node : ℕ} {f : BusFault} →
    Holds Lies acts releases left ended off j links → ((a : ℕ) → given_in (acts_of acts a) ≡ taken_of (part j a)) →
    RefusesItem ends room j k links after node f → ⊥
none_taken {j} holds given r =
    let is = refused_is [] 0 holds (omega arith)
    (λ a. given a ∙ sym (ap (λ (l : List Up). taken_of (part j a) ++ l) (no_wait a) ∙ append-nil (taken_of (part j a))))
    r in
    no_item r.item (sym is.1)

-- ---- a step of a driver, and a node whose item was refused then

module _ {version : ℕ} {size : ℕ} {j : List Entry} {acts : List TypedAct} {was : LoggedDriver} {p : Registers}
    {links : Deques} (h : IsNode version size j acts was p links) (lawful : IsLawfulJournal j)
    (bits : ℕ) (room : Room) (short : length acts ≤ size) (enough : room ≡ room_in bits size)
    (run : (place_of j).bits ≤ bits) where
  before : (a : ℕ) → given_in (acts_of acts a) ≡ taken_of (part j a)
  before a = given_taken acts j a (h.in_time.when a)

  fits : HasFree 4 room j
  fits =
      let P : Room → Type 0 = λ r. HasFree 4 r j in
      subst P (sym enough) (has_room j acts p bits size h.counted lawful h.traced.traces.answered.gives short run)

  -- the step was done
  pub done_taken : {now : LoggedDriver} {q : Registers} {given : Deques} {one : Step} {answer : StepAnswer}
      {k : List Entry} {after : Deques} {node : ℕ} {f : BusFault} →
      StepsHere was now links given p q one (Some answer) → RefusesItem ends room j k given after node f → ⊥
  done_taken {now} {q} {given} {one} {answer} {node = node} {f} st r =
      let y = doing version size j acts was now p q links given one answer h lawful st in
      let c = y.is_next in let d = c.act in let next = c.next in
      let is = refused_is d.gave (opened_by acts + opens_by d) y.holds
      (at_most_one (is_active acts) (opened_by acts) d.step d.answer d.gave y.kind) y.waits_now r in
      let read = is_read j acts d h.linked.level y.kind (λ e. no_item r.item (sym is.1 ∙ e)) in
      let right : (n : ℕ) → d.gave ≡ Credit n ∷ [] → IsBadCredit j n → ⊥ = λ n gave bad.
      credit_right j acts d n (driver_of now) (log_of now) given lawful before
      h.traced.traces.answered.gives y.trace y.holds (credit_lengths p d.step d.answer n (sym next.gave ∙ gave))
      (stops_of j) (sym read) bad.free bad.is_free bad.bad in
      never_refused version j acts d p q next h.ported h.asked h.linked.level y.kind
      (tbs_right version j acts p h.registers h.traced.traces.answered.states) lawful right node room r.item f is.1
      fits (subst (λ (l : List Entry). IsRefusedFor node room l r.item f) is.0 r.why)

  -- it waits
  pub waits_taken : {now : LoggedDriver} {q : Registers} {given : Deques} {one : Step} {k : List Entry}
      {after : Deques} {node : ℕ} {f : BusFault} → StepsHere was now links given p q one None →
      RefusesItem ends room j k given after node f → ⊥
  waits_taken {now} {given = given} {one} st r =
      let unmet = is_unmet st.tried st.met in
      let nothing_done : acts ++ acts_by p one st.tried (place_of j).bits ≡ acts =
      ap (λ (o : Tried). acts ++ acts_by p one o (place_of j).bits) unmet ∙ append-nil acts in
      let trace : Traces p.version (driver_of was) (log_of was) acts =
      subst (λ (n : ℕ). Traces n (driver_of was) (log_of was) acts) (sym h.ported.version_is) h.traced.traces in
      let holds_still : HoldsBy Lies acts (driver_of now) (log_of now) j given =
      subst (λ (l : List TypedAct). HoldsBy Lies l (driver_of now) (log_of now) j given) nothing_done
      ((st.goes (place_of j).bits).holds acts j trace h.linked.holds) in
      none_taken holds_still before r
