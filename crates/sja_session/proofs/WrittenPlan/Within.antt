-- How large what a session counts can be.
use Rattle.std.proofs.Common.{ℕ, zero, suc, ◌<◌, ◌≤◌, List, [], ◌∷◌, length, arith}
use Rattle.std.specs.Prelude.{reverse}
use Rattle.sja_plan.specs.Limits.{most_steps}
use Rattle.sja_plan.proofs.PlanLimits.ByVersion.{bits_most, steps_most}
use Rattle.sja_driver.specs.StepRuns.{StepRun, step_runs_at}
use Rattle.sja_serial.specs.Ending.{progress}
use Rattle.sja_serial.proofs.AllNodes.Several.{many_steps}
use Rattle.sja_session.specs.Sessions.{SessionValue, HasEnd, IsAt, start_of}
use Rattle.sja_session.specs.Stepping.{steps_done_of}
use Rattle.sja_session.specs.Turning.{latest_size}
use Rattle.sja_session.proofs.WrittenPlan.OneMore.{steps_many}
use Rattle.sja_session.proofs.WrittenPlan.Turned.{latest_few}

-- what holds of the steps of each node that is there holds of all
few_steps : (step_runs : List (List StepRun)) (most : ℕ) →
    ((k : ℕ) → k < length step_runs → length (step_runs_at step_runs k) ≤ most) → (k : ℕ) →
    length (step_runs_at step_runs k) ≤ most
few_steps [] most few k = omega arith
few_steps (x ∷ xs) most few zero = few 0 (omega arith)
few_steps (x ∷ xs) most few (suc k) = few_steps xs most (λ i less. few (suc i) (omega (arith, less))) k

module _ (s : SessionValue) (step_runs : List (List StepRun)) (h : IsAt s step_runs) where
  -- no more bits were run than the plan has
  pub bits_few : s.run.bits ≤ s.plan.bits
  bits_few = let a = h.stands.stands.all_bits in let b = h.stands.stands.bits in omega (arith, a, b)

  module _ (done : (k : ℕ) → k < length s.plan.nodes → steps_done_of s k ≤ s.room.steps)
      (end : HasEnd s) (steps : s.room.steps ≤ most_steps s.plan.version) where
    steps_few : (k : ℕ) → length (step_runs_at step_runs k) ≤ 65535
    steps_few = few_steps step_runs 65535 (λ k less.
        let c = many_steps h.stands in let n = h.count in let w = done k (omega (arith, less, c, n)) in
        let many = steps_many s.steps step_runs k h.steps in
        let all = steps_most s.plan.version in omega (arith, w, many, steps, all))

    -- so the last turn isn't large
    pub last_few : latest_size (reverse s.turns) ≤ 2000000
    last_few = latest_few step_runs (start_of (length s.plan.nodes)) (reverse s.turns) (progress s.run step_runs)
        2000000
        (let b = bits_few in let all = bits_most s.plan.version in omega (arith, b, end, all))
        (λ k. let n = steps_few k in omega (arith, n)) (h.took end)
