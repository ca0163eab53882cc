-- Bits that a session runs up to a place of a frame (this project's own rule).
use Rattle.std.specs.Prelude.{◌≡◌, ◌<◌, ◌≤◌, ℕ, Bool, List, length}
use Rattle.sja_plan.specs.declared.place.Place.{Place}
use Rattle.sja_driver.specs.StepRuns.{StepRun}
use Rattle.sja_serial.specs.SerialPlaces.{TakesTo}
use Rattle.sja_serial.specs.Serial.{all_acts}
use Rattle.sja_session.specs.declared.place_refusal.PlaceRefusal.{PlaceRefusal}
use Rattle.sja_session.specs.declared.place_refusal.PlaceRefusal.TheVariants.{NoNode, TurnsUsed}
use Rattle.sja_session.specs.Running.{MayRun, LacksBusTurn}
use Rattle.sja_session.specs.Sessions.{SessionValue, HasEnd, IsAt, setup_by, written}
use Rattle.sja_session.specs.Writing.{with_bits_run}

-- the node is there, and so many bits may be run
abbrev pub MayRunTo : SessionValue → ℕ → ℕ → Type 0
MayRunTo s node limit = (node < length s.plan.nodes) × MayRun s limit

-- why no bit is run: the first of the two that doesn't hold
abbrev pub IsPlaceRefusal : SessionValue → ℕ → ℕ → PlaceRefusal → Type 0
IsPlaceRefusal s node limit NoNode = length s.plan.nodes ≤ node
IsPlaceRefusal s node limit TurnsUsed = (node < length s.plan.nodes) × LacksBusTurn s limit

-- so many bits were run, before each of which the node's next bit wasn't at the place by the cut of its record, and no
-- step was done. Then it is; or it isn't, and all were run that were asked for, or are left
pub record RunsTo (was now : SessionValue) (node : ℕ) (place : Place) (limit run : ℕ) (there : Bool)
    (step_runs : List (List StepRun)) : Type 0 where
  pub takes : TakesTo (setup_by was) (all_acts step_runs) node place limit run there was.run now.run
  pub at : IsAt now step_runs
  pub room : now.room ≡ was.room
  pub wrote : HasEnd was → written now ≡ with_bits_run (written was) run
  pub plan : now.plan ≡ was.plan
