-- Bits of a session in which lines are watched.
use Rattle.std.proofs.Common.{◌≡◌, ℕ, ◌+◌, ◌<◌, ◌≤◌, Bool, true, false, List, length, refl, sym, ap, ◌∙◌, subst}
use Rattle.std.proofs.Common.{arith, inl, inr}
use Rattle.std.specs.Prelude.{◌⊎◌, ◌&&◌, not, reverse, slice_index_or}
use Rattle.sja_bus_rules.specs.Wire.{journal_at}
use Rattle.sja_plan.specs.Limits.{most_bits}
use Rattle.sja_plan.specs.declared.turn.Turn.TheVariants.{Bus}
use Rattle.sja_plan.specs.Plan.{PlanValue}
use Rattle.sja_regs.specs.InterruptLine.{is_line_active}
use Rattle.sja_regs.specs.Registers.{at_power_on}
use Rattle.sja_driver.specs.StepRuns.{StepRun, step_runs_at, acts_in}
use Rattle.sja_driver.specs.TypedActs.{is_active}
use Rattle.sja_promises.specs.Registering.{seen_now}
use Rattle.sja_serial.proofs.AllNodes.Several.{many_steps}
use Rattle.sja_session.specs.Lines.{IsStill, line_at}
use Rattle.sja_session.specs.Running.{MayRun}
use Rattle.sja_session.specs.declared.session_room.SessionRoom.{SessionRoom}
use Rattle.sja_session.specs.Sessions.{SessionValue, IsAt}
use Rattle.sja_session.specs.Turning.{goes_on_latest}
use Rattle.sja_session.specs.Watching.{NoneRose, rise, rises}
use Rattle.sja_session.specs.Inside.Risen.{risen}
use Rattle.sja_session.specs.Watching.NoneRose.{none, bit}
use Rattle.sja_session.proofs.WrittenPlan.Turned.{bits_go_on}

-- ---- looks

pub still_same : (s : SessionValue) (step_runs : List (List StepRun)) → IsAt s step_runs → IsStill s s step_runs
still_same s step_runs h = record {
  at = h;
  bus = refl;
  bits = refl;
  ports = refl;
  kept = λ m d less. refl;
  room = refl;
  wrote = refl;
}

pub still_then : {a b c : SessionValue} {step_runs : List (List StepRun)} → IsStill a b step_runs →
    IsStill b c step_runs →
    IsStill a c step_runs
still_then first second = record {
  at = second.at;
  bus = second.bus ∙ first.bus;
  bits = second.bits ∙ first.bits;
  ports = second.ports ∙ first.ports;
  kept = λ m d less. second.kept m d (let n = ap (λ (p : PlanValue). length p.nodes) first.wrote in omega
      (arith, less, n)) ∙ first.kept m d less;
  room = second.room ∙ first.room;
  wrote = second.wrote ∙ first.wrote;
}

-- a look changes no line
pub line_still : {was now : SessionValue} {step_runs : List (List StepRun)} → IsStill was now step_runs → (k : ℕ) →
    line_at now step_runs k ≡ line_at was step_runs k
line_still {was} {now} {step_runs} s k = λ i. is_line_active (slice_index_or (s.ports i) k (at_power_on 1))
    (let acts = acts_in (step_runs_at step_runs k) in seen_now (is_active acts) (journal_at (s.bus i).journals k)
    acts)

-- nor whether a bit may be run
pub may_still : {was now : SessionValue} {step_runs : List (List StepRun)} → IsStill was now step_runs → MayRun was 1 →
    MayRun now 1
may_still {was} {now} {step_runs} s (inl (inl few)) = inl (inl few)
may_still {was} {now} {step_runs} s (inl (inr over)) =
    let p = ap (λ (p : PlanValue). p.bits) s.wrote in let b = s.bits in inl (inr (omega (arith, over, p, b)))
may_still {was} {now} {step_runs} s (inr has) =
    inr (elim has [
      | inl endless ↦
          let p = ap (λ (p : PlanValue). p.bits) s.wrote in
          let v = ap (λ (p : PlanValue). most_bits p.version) s.wrote in inl (omega (arith, endless, p, v))
      | inr left ↦ inr
          (subst (λ (r : SessionRoom). (length now.turns < r.turns)
          ⊎ (goes_on_latest (reverse now.turns) (Bus 1) ≡ true)) (sym s.room)
          (subst (λ l. (length l < was.room.turns) ⊎ (goes_on_latest (reverse l) (Bus 1) ≡ true))
          (sym (ap (λ (p : PlanValue). p.turns) s.wrote)) left))
    ])

-- ---- bits

pub quiet_at : {watched : List Bool} {nodes : ℕ} {step_runs : List (List StepRun)} {was now : SessionValue} {n : ℕ} →
    NoneRose watched nodes step_runs was now n → IsAt now step_runs
quiet_at (none s) = s.at
quiet_at (bit q r f s) = s.at

-- lines of watched nodes, as they were told before and after a bit, rise where those of the session do
pub rises_told : (watched before now : List Bool) (was then_ : SessionValue) (step_runs : List (List StepRun)) (k : ℕ) →
    (slice_index_or watched k false ≡ true → slice_index_or before k false ≡ line_at was step_runs k) →
    (slice_index_or watched k false ≡ true → slice_index_or now k false ≡ line_at then_ step_runs k) →
    risen watched before now k ≡ rises watched was then_ step_runs k
rises_told watched before now was then_ step_runs k = by (slice_index_or watched k false)
  where
    by : (w : Bool) → (w ≡ true → slice_index_or before k false ≡ line_at was step_runs k) →
        (w ≡ true → slice_index_or now k false ≡ line_at then_ step_runs k) →
        (w && rise (slice_index_or before k false) (slice_index_or now k false))
        ≡ (w && rise (line_at was step_runs k) (line_at then_ step_runs k))
    by false b n = refl
    by true b n = λ i. rise (b refl i) (n refl i)

-- the bits of the plan stay
pub quiet_bits : {watched : List Bool} {nodes : ℕ} {step_runs : List (List StepRun)} {was now : SessionValue} {n : ℕ} →
    NoneRose watched nodes step_runs was now n → now.plan.bits ≡ was.plan.bits
quiet_bits (none s) = ap (λ (p : PlanValue). p.bits) s.wrote
quiet_bits (bit q r f s) =
    ap (λ (p : PlanValue). p.bits) s.wrote ∙ ap (λ (p : PlanValue). p.bits) r.plan ∙ quiet_bits q

-- bits in which no line rose, and a look
rose_then : {watched : List Bool} {nodes : ℕ} {step_runs : List (List StepRun)} {a b c : SessionValue} {n : ℕ} →
    NoneRose watched nodes step_runs a b n → IsStill b c step_runs → NoneRose watched nodes step_runs a c n
rose_then (none s) t = none (still_then s t)
rose_then (bit q r f s) t = bit q r f (still_then s t)

-- and bits after bits
pub rose_on : {watched : List Bool} {nodes : ℕ} {step_runs : List (List StepRun)} {a b c : SessionValue} {m n : ℕ} →
    NoneRose watched nodes step_runs a b m → NoneRose watched nodes step_runs b c n →
    NoneRose watched nodes step_runs a c (m + n)
rose_on {watched} {nodes} {step_runs} {a} {b} {c} {m} q (none s) =
    subst (λ (x : ℕ). NoneRose watched nodes step_runs a c x) (omega arith) (rose_then q s)
rose_on {watched} {nodes} {step_runs} {a} {b} {c} {m} q (bit {n = n} p r f s) =
    subst (λ (x : ℕ). NoneRose watched nodes step_runs a c x) (omega arith) (bit (rose_on q p) r f s)

-- as many nodes at the same step runs
pub nodes_same : {was now : SessionValue} {step_runs : List (List StepRun)} → IsAt was step_runs → IsAt now step_runs →
    length now.plan.nodes ≡ length was.plan.nodes
nodes_same h g = sym g.count ∙ sym (many_steps g.stands) ∙ many_steps h.stands ∙ h.count

-- of several bits one
pub may_one : (s : SessionValue) (count : ℕ) → 1 ≤ count → MayRun s count → MayRun s 1
may_one s count some (inl (inl few)) = absurd (omega (arith, some, few))
may_one s count some (inl (inr over)) = inl (inr over)
may_one s count some (inr (inl endless)) = inr (inl endless)
may_one s count some (inr (inr (inl less))) = inr (inr (inl less))
may_one s count some (inr (inr (inr on))) = inr (inr (inr (bits_go_on (reverse s.turns) 1 count ∙ on)))

-- what has risen was told
pub risen_now : (watched before now : List Bool) (k : ℕ) → risen watched before now k ≡ true →
    slice_index_or now k false ≡ true
risen_now watched before now k e = by (slice_index_or watched k false) (slice_index_or before k false)
    (slice_index_or now k false) e
  where
    by : (a b d : Bool) → (a && (not b && d)) ≡ true → d ≡ true
    by true false d e = e
    by true true d e = absurd cc
    by false b d e = absurd cc
