-- Plans of given parts, and blank ones (this project's own rule).
use Rattle.std.specs.Prelude.{ℕ, List, [], replicate}
use Rattle.sja_steps.specs.declared.step.Step.{Step}
use Rattle.sja_steps.specs.declared.step.Step.TheVariants.{Window}
use Rattle.sja_steps.specs.declared.strike.Strike.{Strike}
use Rattle.sja_plan.specs.declared.turn.Turn.{Turn}
use Rattle.sja_plan.specs.Plan.{PlanValue}

-- a plan of these five
abbrev pub plan_of : ℕ → ℕ → List (List Step) → List Turn → List Strike → PlanValue
plan_of version bits nodes turns strikes = record {
  version = version;
  bits = bits;
  nodes = nodes;
  turns = turns;
  strikes = strikes;
}

-- a plan of so many nodes whose drivers look at the window so many times, with no turn and no strike
abbrev pub blank_plan : ℕ → ℕ → ℕ → ℕ → PlanValue
blank_plan version bits nodes steps = plan_of version bits (replicate nodes (replicate steps Window)) [] []
