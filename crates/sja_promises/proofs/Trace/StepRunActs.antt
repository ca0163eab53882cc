-- Steps and the acts that they are: how many, and where both lead.
use Rattle.std.proofs.Common.{◌≡◌, ◌+◌, ◌*◌, ◌≤◌, ◌++◌, ℕ, Bool, true, false, cond, List, [], ◌∷◌, length}
use Rattle.std.proofs.Common.{sym, ap, ◌∙◌, subst, append-nil, append_assoc, arith}
use Rattle.std.proofs.lemmas.List.{length-append, length-map}
use Rattle.lemmas.proofs.Gathered.{gathered_append}
use Rattle.sja_journal.specs.declared.entry.Entry.{Entry}
use Rattle.sja_regs.specs.declared.registers.Registers.{Registers}
use Rattle.sja_steps.specs.declared.step.Step.{Step}
use Rattle.sja_steps.specs.declared.step.Step.TheVariants.{Start, Stop, Window, Release, Read, Write, Load, Command}
use Rattle.sja_steps.specs.declared.step.Step.TheVariants.{Await, Sent, Interrupt, At}
use Rattle.sja_driver.specs.declared.unmodelled_registers.UnmodelledRegisters.{UnmodelledRegisters}
use Rattle.sja_driver.specs.StepRuns.{StepRun, by_bytes, act_steps, acts_in}
use Rattle.sja_driver.specs.TypedActs.{TypedAct}
use Rattle.sja_driver.proofs.Bytes.FewSteps.{few_steps}
use Rattle.sja_promises.specs.Registering.{StepRunsLeadTo, LeadOn, LeadTo}
use Rattle.sja_promises.specs.Registering.StepRunsLeadTo.{power_on as begins, step_run as does, bit as ran}
use Rattle.sja_promises.specs.Registering.LeadOn.{nothing_more, one_more}
use Rattle.sja_promises.specs.Registering.LeadTo.{power_on, act, bit}

-- ---- how many

few_of : (bytes : Bool) (p : Registers) (active : Bool) (s : Step) →
    length (act_steps bytes p active s) ≤ cond bytes 3 1
few_of true p active (Write address value) = few_steps p active address value
few_of true p active Start = omega arith
few_of true p active Stop = omega arith
few_of true p active Window = omega arith
few_of true p active Release = omega arith
few_of true p active (Read address) = omega arith
few_of true p active (Load m) = omega arith
few_of true p active (Command value) = omega arith
few_of true p active (Await count) = omega arith
few_of true p active Sent = omega arith
few_of true p active Interrupt = omega arith
few_of true p active (At n) = omega arith
few_of false p active s = omega arith

pub acts_push : (step_runs : List StepRun) (a : StepRun) → acts_in (step_runs ++ a ∷ []) ≡ acts_in step_runs ++ a.acts
acts_push step_runs a = gathered_append (λ (x : StepRun). x.acts) step_runs (a ∷ [])
    ∙ ap (λ l. acts_in step_runs ++ l) (append-nil a.acts)

-- in version 3 steps are three times as many acts at most, before it just as many
pub few_acts : (version : ℕ) (j : List Entry) (step_runs : List StepRun) (kept : UnmodelledRegisters) (p : Registers) →
    StepRunsLeadTo version j step_runs kept p →
    length (acts_in step_runs) ≤ cond (by_bytes version) (3 * length step_runs) (length step_runs)
few_acts version j _ _ _ begins = none (by_bytes version)
  where
    none : (bytes : Bool) → 0 ≤ cond bytes (3 * 0) 0
    none true = omega arith
    none false = omega arith
few_acts version j step_runs kept p (ran before _ _ _ was _ led _) =
    few_acts version before step_runs kept was led
few_acts version k _ kept q (does j _ before a was _ p _ led now is on) =
    let so_far = few_acts version j before was p led in
    let all = ap (λ l. length l) (acts_push before a) in let both = length-append (acts_in before) a.acts in
    let long = length-append before (a ∷ []) in
    let few = few_of (by_bytes version) p _ a.step in
    let many = sym (length-map a.acts (λ (d : TypedAct). d.step)) ∙ ap (λ l. length l) is.steps in
    more (by_bytes version) (length (acts_in before)) (length before) (length a.acts) _ _ so_far
    (subst (λ n. n ≤ cond (by_bytes version) 3 1) (sym many) few) (all ∙ both) long
  where
    more : (bytes : Bool) (acts steps one all many : ℕ) → acts ≤ cond bytes (3 * steps) steps →
        one ≤ cond bytes 3 1 → all ≡ acts + one → many ≡ steps + 1 → all ≤ cond bytes (3 * many) many
    more true acts steps one all many few own is long = omega (arith, few, own, is, long)
    more false acts steps one all many few own is long = omega (arith, few, own, is, long)

-- ---- where they lead

-- acts lead on from where others led
pub led_on : (version : ℕ) (before : List TypedAct) (j : List Entry) (p : Registers) (more : List TypedAct)
    (k : List Entry)
    (q : Registers) → LeadTo version j before p → LeadOn before j p more k q → LeadTo version k (before ++ more) q
led_on version before j p more k q led nothing_more =
    subst (λ (l : List TypedAct). LeadTo version j l p) (sym (append-nil before)) led
led_on version before j p _ k r led (one_more acts d mid _ q _ on is) =
    subst (λ (l : List TypedAct). LeadTo version k l r) (append_assoc before acts (d ∷ []))
    (act mid k (before ++ acts) d q r (led_on version before j p acts mid q led on) is)

-- what steps have led to their acts have
pub forget : (version : ℕ) (j : List Entry) (step_runs : List StepRun) (kept : UnmodelledRegisters) (p : Registers) →
    StepRunsLeadTo version j step_runs kept p → LeadTo version j (acts_in step_runs) p
forget version j _ _ _ begins = power_on
forget version k step_runs kept q (ran j _ _ _ p _ led is) =
    bit j k (acts_in step_runs) p q (forget version j step_runs kept p led) is
forget version k _ kept q (does j _ before a was _ p _ led now is on) =
    subst (λ (l : List TypedAct). LeadTo version k l q) (sym (acts_push before a))
    (led_on version (acts_in before) j p a.acts k q (forget version j before was p led) on)
