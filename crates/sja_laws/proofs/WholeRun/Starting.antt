-- In a session without an end each start that is tried in reset mode is done.
use Rattle.std.proofs.Common.{◌≡◌, ◌<◌, ◌≤◌, ◌++◌, ℕ, Bool, false, List, [], ◌∷◌, length, sym, ap, ◌∙◌, subst, arith}
use Rattle.std.specs.Prelude.{◌^◌, if◌then◌else◌, nat_lt, slice_index_or}
use Rattle.std.proofs.lemmas.Bool.{lt-ltb}
use Rattle.lemmas.specs.Picking.{EachAfter}
use Rattle.lemmas.proofs.Picking.{each_inside}
use Rattle.sja_journal.specs.Sizes.{most_activations}
use Rattle.sja_bus_rules.specs.Wire.{journal_at}
use Rattle.sja_regs.specs.Registers.{at_power_on}
use Rattle.sja_steps.specs.declared.refusal.Refusal.TheVariants.{NoActivationLeft}
use Rattle.sja_steps.specs.declared.step.Step.{Step}
use Rattle.sja_steps.specs.declared.step.Step.TheVariants.{Start}
use Rattle.sja_steps.specs.declared.step_answer.StepAnswer.TheVariants.{Done, Refused}
use Rattle.sja_driver.specs.declared.logged_driver.LoggedDriver.{LoggedDriver}
use Rattle.sja_driver.specs.StepRuns.{StepRun, step_runs_at, acts_in}
use Rattle.sja_driver.specs.TypedActs.{TypedAct, FitsState, is_active, opened_by}
use Rattle.sja_driver.specs.LoggedDrivers.{kept_of}
use Rattle.sja_serial.proofs.AllNodes.Several.{first_driver, some_links}
use Rattle.sja_serial.proofs.TypedActs.Parts.{all_at}
use Rattle.sja_session.specs.Sessions.{SessionValue, IsAt, IsEndless, IsSession, setup_by, written}
use Rattle.sja_session.proofs.Lifetime.Versions.{run_endless}
use Rattle.sja_session.proofs.WrittenPlan.OneMore.{steps_many}
use Rattle.sja_laws.proofs.OneNode.Starts.{opened_before}

-- where activations are left a start in reset mode is done
start_done : (version : ℕ) (before : List TypedAct) (d : TypedAct) →
    FitsState version (is_active before) (opened_by before) d.step d.answer → d.step ≡ Start →
    is_active before ≡ false → opened_by before < most_activations version → d.answer ≡ Done
start_done version before d fits start reset few =
    let n = opened_by before in
    let F : Bool → Type 0 = λ b. FitsState version b n d.step d.answer in
    let G : Step → Type 0 = λ s. FitsState version false n s d.answer in
    let is : d.answer ≡ (if nat_lt n (most_activations version) then Done else Refused NoActivationLeft) =
    subst G start (subst F reset fits) in
    is ∙ ap (λ (b : Bool). if b then Done else Refused NoActivationLeft) (lt-ltb n (most_activations version) few)

-- numbers below a large one, which isn't looked at
within : (n m room most : ℕ) → m ≡ n → m ≤ room → room ≤ most → n ≤ most
within n m room most same few counted = omega (arith, same, few, counted)

below : (n m most : ℕ) → n < m → m ≤ most → n < most
below n m most less few = omega (arith, less, few)

module _ (s : SessionValue) (sizes : List ℕ) (capacity : ℕ) (step_runs : List (List StepRun)) (node : ℕ)
    (session : IsSession s sizes capacity) (endless : IsEndless s) (at : IsAt s step_runs)
    (there : node < length s.plan.nodes) where
  -- no more steps were done than activations are there
  few : length (step_runs_at step_runs node) ≤ most_activations (setup_by s).version
  few =
      let P : ℕ → Type 0 = λ v. length (step_runs_at step_runs node) ≤ most_activations v in
      subst P (sym (run_endless (written s) endless))
      (within (length (step_runs_at step_runs node)) (length (slice_index_or s.steps node [])) s.room.steps (2 ^ 56)
      (steps_many s.steps step_runs node at.steps) (session.done node there) session.counted)

  -- the node is one of the run's, and it has a driver
  inside : node < (setup_by s).nodes
  inside = let count = at.count in omega (arith, count, there)

  driver : LoggedDriver
  driver = first_driver s.run.drivers
      (let count = at.stands.stands.count.drivers in let here = inside in omega (arith, count, here))

  -- before a start one of them is left
  left : (before after : List TypedAct) (d : TypedAct) → acts_in (step_runs_at step_runs node) ≡ before ++ d ∷ after →
      d.step ≡ Start → opened_by before < most_activations (setup_by s).version
  left before after d split start =
      below (opened_by before) (length (step_runs_at step_runs node)) (most_activations (setup_by s).version)
      (opened_before (setup_by s).version (journal_at s.run.bus.journals node) (step_runs_at step_runs node)
      (kept_of (slice_index_or s.run.drivers node driver)) (slice_index_or s.run.ports node (at_power_on 1))
      (at.stands.nodes node driver (at_power_on 1) inside).led before after d split start) few

  -- so each start is done
  pub start_is_done : (before after : List TypedAct) (d : TypedAct) →
      acts_in (step_runs_at step_runs node) ≡ before ++ d ∷ after → d.step ≡ Start → is_active before ≡ false →
      d.answer ≡ Done
  start_is_done before after d split start reset =
      let P : List TypedAct → TypedAct → Type 0 =
      λ l e. FitsState (setup_by s).version (is_active l) (opened_by l) e.step e.answer in
      let states = subst (λ (l : List TypedAct). EachAfter P [] l) (all_at step_runs node ∙ split)
      (at.stands.stands.nodes node driver (at_power_on 1) some_links inside).traced.traces.answered.states in
      start_done (setup_by s).version before d (each_inside P [] before after d states) start reset
      (left before after d split start)
