-- What a driver of version 1 or 2 did of its script: each step is one act.
use Rattle.std.proofs.Common.{◌≡◌, ◌++◌, ℕ, Bool, true, false, Some, List, [], ◌∷◌, length, map, take, refl, sym, ap}
use Rattle.std.proofs.Common.{inl, inr, ◌∙◌, subst, append-nil}
use Rattle.std.proofs.lemmas.List.{length-map, map-append}
use Rattle.sja_regs.specs.DriverSettings.{SettingsValue}
use Rattle.sja_steps.specs.declared.step_record.StepRecord.{StepRecord}
use Rattle.sja_steps.specs.declared.step.Step.{Step}
use Rattle.sja_steps.specs.declared.step_answer.StepAnswer.{StepAnswer}
use Rattle.sja_driver.specs.StepRuns.{StepRun, Answers, by_bytes, act_steps, acts_in, step_record_of}
use Rattle.sja_driver.specs.TypedActs.{TypedAct, is_active, step_record_of as done_of_act}
use Rattle.sja_driver.specs.declared.unmodelled_registers.UnmodelledRegisters.{UnmodelledRegisters}
use Rattle.sja_promises.proofs.Trace.StepRunActs.{acts_push}
use Rattle.sja_thread_promises.specs.Accessing.{IsStepRunAt, IsBrokenOff, LeadToStepRuns, Work, Follows, acts_done}
use Rattle.sja_thread_promises.specs.Accessing.IsBrokenOff.{not_begun, begun}
use Rattle.sja_thread_promises.specs.Accessing.LeadToStepRuns.{nothing_done, step_run_done}
use Rattle.sja_thread_promises.specs.Counting.{IsCounted, found_after}
use Rattle.sja_threads.specs.Inside.Steps.{IsActIf}
use Rattle.sja_threads.proofs.Driver.OneStep.{IsOneOf, one_of}

none_broken : (version : ℕ) (set : SettingsValue) (active : Bool) (left : List Step) (acts : List TypedAct) →
    IsBrokenOff version set active left acts → by_bytes version ≡ false → acts ≡ []
none_broken version set active _ _ not_begun typed = refl
none_broken version set active _ _ (begun address value at rest bytes has are some) typed =
    absurd (let two : true ≡ false = sym bytes ∙ typed in cc)

-- what a step is that was done is one act with its answer
one_act : (version : ℕ) (set : SettingsValue) (active : Bool) (kept kept_now : UnmodelledRegisters) (a : StepRun) →
    IsStepRunAt version set active kept a kept_now → by_bytes version ≡ false → IsActIf a.step (Some a.answer) a.acts
one_act version set active kept kept_now a is typed = (
  is.is.steps ∙ ap (λ (b : Bool). act_steps b is.at active a.step) typed,
  subst (λ (b : Bool). Answers b is.at is.seen kept a.bits a.step a.acts a.answer) typed is.is.answer,
)

-- and as a log has it
same_done : (found : ℕ) (a : StepRun) → IsCounted found a → IsActIf a.step (Some a.answer) a.acts →
    map done_of_act a.acts ≡ step_record_of a ∷ []
same_done found a counted are =
    let this : IsOneOf a.step a.answer a.acts = one_of a.step a.answer a.acts are in
    let bits : a.bits ≡ this.act.bits = elim counted.1 [
      | inl same ↦ same ∙ ap (λ (l : List TypedAct). found_after found l) this.are
      | inr none ↦ absurd (let two : [] ≡ this.act ∷ [] = sym none.2 ∙ this.are in cc)
    ] in
    ap (λ (l : List TypedAct). map done_of_act l) this.are
    ∙ ap (λ (x : StepAnswer). record { answer = x; bits = this.act.bits } ∷ []) this.answered
    ∙ ap (λ (n : ℕ). record { answer = a.answer; bits = n } ∷ []) (sym bits)

each_one : (version : ℕ) (first : SettingsValue) (step_runs : List StepRun) (last : SettingsValue)
    (kept : UnmodelledRegisters)
    (found : ℕ) → LeadToStepRuns version first step_runs last kept found → by_bytes version ≡ false →
    (map (λ (d : TypedAct). d.step) (acts_in step_runs) ≡ map (λ (a : StepRun). a.step) step_runs)
    × (map done_of_act (acts_in step_runs) ≡ map step_record_of step_runs)
each_one version first _ _ _ _ nothing_done typed = (refl, refl)
each_one version first _ last kept_now _ (step_run_done step_runs a set _ kept _ found led on is counted) typed =
    let so_far = each_one version first step_runs set kept found led typed in
    let one = one_act version set (is_active (acts_in step_runs)) kept kept_now a is typed in (
      ap (λ (l : List TypedAct). map step_of l) (acts_push step_runs a) ∙ map-append step_of (acts_in step_runs) a.acts
          ∙ ap (λ (l : List Step). l ++ map step_of a.acts) so_far.0
          ∙ ap (λ (l : List Step). map (λ (x : StepRun). x.step) step_runs ++ l) one.0
          ∙ sym (map-append (λ (x : StepRun). x.step) step_runs (a ∷ [])),
      ap (λ (l : List TypedAct). map done_of_act l) (acts_push step_runs a)
          ∙ map-append done_of_act (acts_in step_runs) a.acts
          ∙ ap (λ (l : List StepRecord). l ++ map done_of_act a.acts) so_far.1
          ∙ ap (λ (l : List StepRecord). map step_record_of step_runs ++ l) (same_done found a counted one)
          ∙ sym (map-append step_record_of step_runs (a ∷ [])),
    )
  where
    step_of : TypedAct → Step
    step_of d = d.step

-- in those versions the acts are a front of the steps, and those that a log has as done
pub typed_steps : (version : ℕ) (set : SettingsValue) (steps : List Step) (work : Work) → by_bytes version ≡ false →
    Follows version set steps work →
    (map (λ (d : TypedAct). d.step) (acts_done work) ≡ take (length (acts_done work)) steps)
    × (map done_of_act (acts_done work) ≡ map step_record_of work.step_runs)
typed_steps version set steps work typed f =
    let each = each_one version set work.step_runs f.last f.kept f.found f.leads typed in
    let none = none_broken version f.last (is_active (acts_in work.step_runs)) _ work.broken f.broken typed in
    let all : acts_done work ≡ acts_in work.step_runs =
    ap (λ (l : List TypedAct). acts_in work.step_runs ++ l) none ∙ append-nil (acts_in work.step_runs) in
    let count : length work.step_runs ≡ length (acts_in work.step_runs) =
    sym (length-map work.step_runs (λ (a : StepRun). a.step)) ∙ ap (λ (l : List Step). length l) (sym each.0)
    ∙ length-map (acts_in work.step_runs) (λ (d : TypedAct). d.step) in
    subst (λ (l : List TypedAct). (map (λ (d : TypedAct). d.step) l ≡ take (length l) steps)
    × (map done_of_act l ≡ map step_record_of work.step_runs)) (sym all)
    (each.0 ∙ f.first ∙ ap (λ (n : ℕ). take n steps) count, each.1)
