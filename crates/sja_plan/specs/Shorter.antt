-- A plan of fewer bits (this project's own rule).
use Rattle.std.specs.Prelude.{◌+◌, ℕ}
use Rattle.sja_plan.specs.Plan.{PlanValue}

-- the same plan, but that its run has no bit after this one, counted from 0
abbrev pub ended_after : PlanValue → ℕ → PlanValue
ended_after plan bit = record plan { bits = bit + 1 }
