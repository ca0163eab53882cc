-- Why there is a text of the plan on the input, and why there is none, by what the input held before and holds after
-- (this project's own rule).
use Rattle.std.specs.Prelude.{◌≡◌, ◌⊎◌, ℕ, Bool, false, List, Option}
use Rattle.sja_plan_reading.specs.DocumentLimits.{begins_by_bytes}
use Rattle.sja_plan.specs.Plan.{PlanValue}
use Rattle.sja_plan_reading.specs.PlacedPlans.{ArePlacedPlan, IsFirstPlacedFault}
use Rattle.sja_plan.specs.declared.placed_strike.PlacedStrike.{PlacedStrike}
use Rattle.sja_placed_strikes.specs.PlanRead.{IsRunPlan}
use Rattle.sja_placed_strikes.specs.Counting.{AreMany}
use Rattle.sja_placed_strikes.specs.Resolving.{HasNoPlace, HasNoRoom}
use Rattle.sja_log.specs.Log.{RunValue}
use Rattle.sja_log.specs.declared.run_fault.RunFault.{RunFault}
use Rattle.text_codec.specs.declared.command_refusal.CommandRefusal.{CommandRefusal}
use Rattle.text_codec.specs.declared.command_refusal.CommandRefusal.TheVariants as refusal
use Rattle.sja_program.specs.Input.{IsRead, ReadsFew, BreaksOff}
use Rattle.sja_program.specs.RunText.{IsRunOf, IsTooLarge, MayFault}
use Rattle.sja_program.specs.declared.run_text.RunText.{RunText}

-- the text is such a one of the plan that the bytes which were read are
abbrev pub IsOfPlan : (PlanValue → List ℕ → Type 0) → Option (List ℕ) → Option (List ℕ) → List ℕ → Type 0
IsOfPlan Is before after text =
    (bytes : List ℕ) × (plan : PlanValue) × IsRead before after bytes × IsRunPlan bytes plan × Is plan text

-- the bytes are a plan, and this holds of it with its strikes by place
abbrev pub OfPlaced : List ℕ → (PlanValue → List PlacedStrike → Type 0) → Type 0
OfPlaced bytes Is = (p : PlanValue) × (placed : List PlacedStrike) × ArePlacedPlan bytes p placed × Is p placed

-- the run has no place of the strike of this number, and none of those that are left
abbrev pub MissesPlace : ℕ → PlanValue → List PlacedStrike → Type 0
MissesPlace number p placed = (frames : ℕ) × (last : Option ℕ) × HasNoPlace p placed number frames last

-- the strikes by place are too many, or the plan has no room for one strike more
abbrev pub HasManyStrikes : PlanValue → List PlacedStrike → Type 0
HasManyStrikes p placed = AreMany p.bits placed ⊎ HasNoRoom p placed

-- why there is no plan to run, where that is told in one line. Memory may be refused at any time. Else the bytes have
-- this first fault, or they are a plan, and its strikes by place have no bits; and they don't say version 3 before all
-- other keys
abbrev pub RefusesRunPlan : List ℕ → CommandRefusal → Type 0
RefusesRunPlan bytes refusal.OutOfMemory = Unit {0}
RefusesRunPlan bytes (refusal.Plan fault) = IsFirstPlacedFault bytes fault × (begins_by_bytes bytes ≡ false)
RefusesRunPlan bytes (refusal.Place number) = OfPlaced bytes (MissesPlace number) × (begins_by_bytes bytes ≡ false)
RefusesRunPlan bytes refusal.Strikes = OfPlaced bytes HasManyStrikes × (begins_by_bytes bytes ≡ false)
RefusesRunPlan bytes other = ⊥

-- why there is no text of a run. Memory may be refused at any time, and a read may fail. Else the bytes that were read
-- have this first fault, or they are a plan, and its run had one of these faults
abbrev pub RefusesBy : (PlanValue → RunFault → Type 0) → Option (List ℕ) → Option (List ℕ) → CommandRefusal → Type 0
RefusesBy May before after refusal.OutOfMemory = ReadsFew before after
RefusesBy May before after refusal.Read = BreaksOff before after
RefusesBy May before after (refusal.Plan fault) =
    (bytes : List ℕ) × IsRead before after bytes × RefusesRunPlan bytes (refusal.Plan fault)
RefusesBy May before after (refusal.Place number) =
    (bytes : List ℕ) × IsRead before after bytes × RefusesRunPlan bytes (refusal.Place number)
RefusesBy May before after refusal.Strikes =
    (bytes : List ℕ) × IsRead before after bytes × RefusesRunPlan bytes refusal.Strikes
RefusesBy May before after (refusal.Run fault) =
    (bytes : List ℕ) × (plan : PlanValue) × IsRead before after bytes × IsRunPlan bytes plan × May plan fault
RefusesBy May before after refusal.NotHexadecimal = ⊥
RefusesBy May before after refusal.NotALine = ⊥
RefusesBy May before after (refusal.Layout fault) = ⊥
RefusesBy May before after (refusal.Line fault) = ⊥
RefusesBy May before after (refusal.Notation fault) = ⊥
RefusesBy May before after (refusal.Sweep why) = ⊥
RefusesBy May before after (refusal.Drawing levels) = ⊥

-- of a run in one thread
abbrev pub RefusesRun : Option (List ℕ) → Option (List ℕ) → CommandRefusal → Type 0
RefusesRun = RefusesBy (MayFault false)

-- why there is none of these texts of a run, in threads (`true`) or in one: as for any run; or it was made, and the
-- drawing of its bits has more levels than may be drawn unasked
abbrev pub RefusesText : Bool → RunText → Option (List ℕ) → Option (List ℕ) → CommandRefusal → Type 0
RefusesText threads what before after (refusal.Drawing levels) =
    (bytes : List ℕ) × (plan : PlanValue) × (log : RunValue) × IsRead before after bytes × IsRunPlan bytes plan
    × IsRunOf threads plan log × IsTooLarge what plan log levels
RefusesText threads what before after other = RefusesBy (MayFault threads) before after other
