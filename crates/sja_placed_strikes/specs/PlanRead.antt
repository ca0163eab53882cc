-- The plan that runs, of the bytes of a document (this project's own rule).
use Rattle.std.specs.Prelude.{ℕ, List}
use Rattle.sja_plan.specs.Plan.{PlanValue}
use Rattle.sja_plan_reading.specs.PlacedPlans.{ArePlacedPlan, IsFirstPlacedFault}
use Rattle.sja_plan.specs.declared.placed_strike.PlacedStrike.{PlacedStrike}
use Rattle.sja_placed_strikes.specs.Resolving.{IsResolved, IsPlaceFault}
use Rattle.sja_placed_strikes.specs.declared.read_fault.ReadFault.{ReadFault}
use Rattle.sja_placed_strikes.specs.declared.read_fault.ReadFault.TheVariants.{Plan, Place}

-- the bytes are a plan, with strikes by bits and by place, and this is the plan with each strike by place at its bit
abbrev pub IsRunPlan : List ℕ → PlanValue → Type 0
IsRunPlan bytes p =
    (q : PlanValue) × (placed : List PlacedStrike) × ArePlacedPlan bytes q placed × IsResolved q placed p

-- the bytes have this first fault, or they are a plan, of whose strikes by place no plan comes
abbrev pub IsReadFault : List ℕ → ReadFault → Type 0
IsReadFault bytes (Plan fault) = IsFirstPlacedFault bytes fault
IsReadFault bytes (Place fault) =
    (q : PlanValue) × (placed : List PlacedStrike) × ArePlacedPlan bytes q placed × IsPlaceFault q placed fault
