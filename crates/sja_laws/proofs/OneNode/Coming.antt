-- What comes next on the way of a run: a step, a bit, or nothing.
use Rattle.std.proofs.Common.{◌≡◌, ◌<◌, ℕ, List, [], ◌∷◌, ◌++◌, length, refl}
use Rattle.std.proofs.Common.{ap, ◌∙◌, arith, append-nil, append_assoc}
use Rattle.std.specs.Prelude.{slice_index_or}
use Rattle.std.proofs.lemmas.List.{length-append}
use Rattle.sja_journal.specs.declared.entry.Entry.{Entry}
use Rattle.sja_journal.specs.Places.{place_of}
use Rattle.sja_regs.specs.declared.registers.Registers.{Registers}
use Rattle.sja_driver.specs.declared.unmodelled_registers.UnmodelledRegisters.{UnmodelledRegisters}
use Rattle.sja_driver.specs.StepRuns.{StepRun, IsStepRun, acts_in}
use Rattle.sja_driver.specs.TypedActs.{is_active}
use Rattle.sja_promises.specs.Registering.{IsPortBit, LeadOn, seen_now}
use Rattle.sja_laws.proofs.OneNode.OnePort.{bits_with_bit}
use Rattle.sja_laws.proofs.OneNode.Onward.{AllLate, Onward, goes_on, bits_rise, steps_come}
use Rattle.sja_laws.proofs.OneNode.Onward.Onward.{arrived, does, runs}

-- ---- what comes next

pub at_end : {A : Type 0} (xs ys : List A) (x d : A) → slice_index_or (xs ++ x ∷ ys) (length xs) d ≡ x
at_end [] ys x d = refl
at_end (y ∷ xs) ys x d = at_end xs ys x d

-- a step
pub record NextStepRun (version : ℕ) (whole : List Entry) (all : List StepRun) (j : List Entry)
    (step_runs : List StepRun) (kept : UnmodelledRegisters) (p : Registers) : Type 0 where
  pub entries : List Entry
  pub step : StepRun
  pub kept_now : UnmodelledRegisters
  pub port : Registers
  pub bits : step.bits ≡ (place_of j).bits
  pub is : IsStepRun version p (seen_now (is_active (acts_in step_runs)) j (acts_in step_runs))
      (is_active (acts_in step_runs)) kept step kept_now
  pub leads : LeadOn (acts_in step_runs) j p step.acts entries port
  pub onward : Onward version whole all entries (step_runs ++ step ∷ []) kept_now port

pub next_step_run : (version : ℕ) (whole : List Entry) (all : List StepRun) (j : List Entry) (step_runs : List StepRun)
    (kept : UnmodelledRegisters) (p : Registers) → Onward version whole all j step_runs kept p →
    length step_runs < length all →
    ((d : StepRun) → (slice_index_or all (length step_runs) d).bits ≡ (place_of j).bits) →
    NextStepRun version whole all j step_runs kept p
next_step_run version whole all j step_runs kept p (arrived _ _ _ _ is same) less now =
    let e = ap (λ (l : List StepRun). length l) same in absurd (omega (arith, e, less))
next_step_run version whole all j step_runs kept p (does _ k _ a _ kept_now _ q bits is on more) less now = record {
  entries = k;
  step = a;
  kept_now = kept_now;
  port = q;
  bits = bits;
  is = is;
  leads = on;
  onward = more;
}
next_step_run version whole all j step_runs kept p (runs _ k _ _ _ q b more) less now =
    let h = steps_come version whole all k step_runs kept q more in
    absurd (by h.more h.is h.late)
  where
    by : (later : List StepRun) → all ≡ step_runs ++ later → AllLate (place_of k).bits later → ⊥
    by [] is late =
        let e = ap (λ (l : List StepRun). length l) (is ∙ append-nil step_runs) in omega (arith, e, less)
    by (a ∷ later) is late =
        let n = bits_with_bit j k p q b in
        let here : (slice_index_or all (length step_runs) a).bits ≡ a.bits =
        ap (λ (l : List StepRun). (slice_index_or l (length step_runs) a).bits) is
        ∙ ap (λ (x : StepRun). x.bits) (at_end step_runs later a a) in
        let m = now a in
        let few = late.0 in
        omega (arith, n, here, m, few)

-- a bit
pub record NextBit (version : ℕ) (whole : List Entry) (all : List StepRun) (j : List Entry) (step_runs : List StepRun)
    (kept : UnmodelledRegisters) (p : Registers) : Type 0 where
  pub entries : List Entry
  pub port : Registers
  pub bit : IsPortBit p port j entries
  pub onward : Onward version whole all entries step_runs kept port

pub next_bit : (version : ℕ) (whole : List Entry) (all : List StepRun) (j : List Entry) (step_runs : List StepRun)
    (kept : UnmodelledRegisters) (p : Registers) → Onward version whole all j step_runs kept p →
    (place_of j).bits < (place_of whole).bits →
    (length step_runs < length all → (d : StepRun) →
    (place_of j).bits < (slice_index_or all (length step_runs) d).bits) →
    NextBit version whole all j step_runs kept p
next_bit version whole all j step_runs kept p (arrived _ _ _ _ is same) less late =
    let e = ap (λ (l : List Entry). (place_of l).bits) is in absurd (omega (arith, e, less))
next_bit version whole all j step_runs kept p (does _ k _ a _ now _ q bits is on more) less late =
    let h = steps_come version whole all k (step_runs ++ a ∷ []) now q more in
    let split : all ≡ step_runs ++ a ∷ h.more = h.is ∙ append_assoc step_runs (a ∷ []) h.more in
    let long = ap (λ (l : List StepRun). length l) split ∙ length-append step_runs (a ∷ h.more) in
    let here : (slice_index_or all (length step_runs) a).bits ≡ a.bits =
    ap (λ (l : List StepRun). (slice_index_or l (length step_runs) a).bits) split
    ∙ ap (λ (x : StepRun). x.bits) (at_end step_runs h.more a a) in
    let few = late (omega (arith, long)) a in
    absurd (omega (arith, here, few, bits))
next_bit version whole all j step_runs kept p (runs _ k _ _ _ q b more) less late =
    record { entries = k; port = q; bit = b; onward = more }

-- nothing
pub record IsOver (whole : List Entry) (all : List StepRun) (j : List Entry) (step_runs : List StepRun) : Type 0 where
  pub entries : j ≡ whole
  pub steps : step_runs ≡ all

pub is_over : (version : ℕ) (whole : List Entry) (all : List StepRun) (j : List Entry) (step_runs : List StepRun)
    (kept : UnmodelledRegisters) (p : Registers) → Onward version whole all j step_runs kept p →
    (place_of j).bits ≡ (place_of whole).bits → length step_runs ≡ length all → IsOver whole all j step_runs
is_over version whole all j step_runs kept p (arrived _ _ _ _ is same) bits count = record {
  entries = is;
  steps = same;
}
is_over version whole all j step_runs kept p (does _ k _ a _ now _ q when is on more) bits count =
    let h = steps_come version whole all k (step_runs ++ a ∷ []) now q more in
    let long = ap (λ (l : List StepRun). length l) (h.is ∙ append_assoc step_runs (a ∷ []) h.more)
    ∙ length-append step_runs (a ∷ h.more) in
    absurd (omega (arith, long, count))
is_over version whole all j step_runs kept p (runs _ k _ _ _ q b more) bits count =
    let n = bits_with_bit j k p q b in
    let m = bits_rise k whole (goes_on version whole all k step_runs kept q more) in
    absurd (omega (arith, n, m, bits))
