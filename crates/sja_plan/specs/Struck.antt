-- A plan with one strike more or one less (this project's own rule).
use Rattle.std.specs.Prelude.{◌-◌, ℕ, [], ◌∷◌, ◌++◌, length, take}
use Rattle.sja_steps.specs.declared.strike.Strike.{Strike}
use Rattle.sja_plan.specs.Plan.{PlanValue}

-- the node is struck once, at this bit
abbrev pub one_strike : ℕ → ℕ → Strike
one_strike node bit = record { node = node; bit = bit; every = 1; times = 1 }

-- the same plan, but that the node is also struck at this bit. A node and a bit that several strikes name are struck
-- once (`Strikes` of sja_steps): where the plan strikes the node there already, the same bits are struck
abbrev pub struck_at : PlanValue → ℕ → ℕ → PlanValue
struck_at plan node bit = record plan { strikes = plan.strikes ++ one_strike node bit ∷ [] }

-- the same plan without its last strike; where it has none, the same plan
abbrev pub unstruck : PlanValue → PlanValue
unstruck plan = record plan { strikes = take (length plan.strikes - 1) plan.strikes }
