-- Documents whose strikes may name places, and the plans that they are (this project's own rule).
use Rattle.std.specs.Prelude.{◌≡◌, ◌==◌, ◌&&◌, ℕ, Bool, true, List, [], length}
use Rattle.std.specs.List.{AllZip}
use Rattle.sja_plan_reading.specs.Document.{DocumentValue}
use Rattle.sja_plan.specs.Plan.{PlanValue}
use Rattle.sja_plan_reading.specs.PlacedTexts.{SaysItem, bits_in, placed_from}
use Rattle.sja_plan_reading.specs.Texts.{IsFirstBad}
use Rattle.sja_plan_reading.specs.Checks.{SaysPlan, version_of, HasFewStrikes, BeforeStrikes}
use Rattle.sja_plan_reading.specs.Faults.{Says, IsDocumentFault, IsFirstFault}
use Rattle.sja_plan.specs.declared.placed_strike.PlacedStrike.{PlacedStrike}
use Rattle.sja_plan_reading.specs.declared.strike_item.StrikeItem.{StrikeItem}
use Rattle.sja_plan_reading.specs.declared.plan_fault.PlanFault.{PlanFault}
use Rattle.sja_plan_reading.specs.declared.plan_fault.PlanFault.TheVariants.{Strike}

-- strikes may name places in version 3, where that is allowed
abbrev pub has_places : Bool → DocumentValue → Bool
has_places may d = may && (version_of d == 3)

-- every check passes, this is the plan with its strikes by bits, and these are the strikes by place
pub record SaysPlacedPlan (may : Bool) (d : DocumentValue) (p : PlanValue) (placed : List PlacedStrike) : Type 0 where
  pub items : List StrikeItem
  pub strikes : AllZip (SaysItem (has_places may d) (length d.nodes)) d.faults items
  pub at_bits : p.strikes ≡ bits_in items
  pub at_places : placed ≡ placed_from 1 items
  pub strike_count : HasFewStrikes d
  -- all but the strikes
  pub others : SaysPlan (record d { faults = [] }) (record p { strikes = [] })

-- of the checks of what a document says, all before this one pass, and this one fails
abbrev pub IsPlacedFault : Bool → DocumentValue → PlanFault → Type 0
IsPlacedFault may d (Strike number) =
    BeforeStrikes d × IsFirstBad (SaysItem (has_places may d) (length d.nodes)) d.faults number
IsPlacedFault may d fault = IsDocumentFault d fault

-- ---- of bytes

-- the bytes are this plan, with these strikes by place
abbrev pub ArePlacedPlan : List ℕ → PlanValue → List PlacedStrike → Type 0
ArePlacedPlan bytes p placed = (d : DocumentValue) × Says bytes d × SaysPlacedPlan true d p placed

-- of all checks of the bytes, all before this one pass, and this one fails
abbrev pub IsFirstPlacedFault : List ℕ → PlanFault → Type 0
IsFirstPlacedFault bytes (Strike number) =
    (d : DocumentValue) × Says bytes d × IsPlacedFault true d (Strike number)
IsFirstPlacedFault bytes fault = IsFirstFault bytes fault
