-- Bits of a session up to a place.
use Rattle.std.proofs.Common.{◌≡◌, ℕ, ◌-◌, ◌≤◌, Bool, List, refl, arith}
use Rattle.sja_plan.specs.declared.place.Place.{Place}
use Rattle.sja_plan.specs.declared.turn.Turn.{Turn}
use Rattle.sja_plan.specs.Limits.{most_bits}
use Rattle.sja_plan.specs.Plan.{PlanValue}
use Rattle.sja_steps.specs.declared.step.Step.{Step}
use Rattle.sja_driver.specs.StepRuns.{StepRun}
use Rattle.sja_serial.specs.SerialPlaces.{TakesTo, IsElsewhere}
use Rattle.sja_serial.specs.Serial.{SerialValue, all_acts}
use Rattle.sja_serial.proofs.WholeRun.GoingOn.{bits_run}
use Rattle.sja_session.specs.SessionPlaces.{RunsTo}
use Rattle.sja_session.specs.declared.session_room.SessionRoom.{SessionRoom}
use Rattle.sja_session.specs.Sessions.{session_of, setup_by, IsAt}
use Rattle.sja_session.specs.Inside.Written.{with_bits}
use Rattle.sja_session.proofs.BitsDone.AfterBits as after

module _ {room : SessionRoom} {plan : PlanValue} {was now : SerialValue} {steps : List (List Step)} {turns : List Turn}
    {step_runs : List (List StepRun)} {node limit run : ℕ} {place : Place} {there : Bool}
    (h : IsAt (session_of room was plan steps turns) step_runs)
    (t : TakesTo (setup_by (session_of room was plan steps turns)) (all_acts step_runs) node place limit run there was
    now) where
  -- so many bits more were run
  pub many_run : run ≡ now.bits - was.bits
  many_run =
      let b = bits_run (setup_by (session_of room was plan steps turns)) (all_acts step_runs) (IsElsewhere node place)
      was now run t.bits in
      omega (arith, b)

  pub came_to : (items : List Turn) → (plan.bits ≤ most_bits plan.version → items ≡ with_bits turns run) →
      RunsTo (session_of room was plan steps turns) (session_of room now plan steps items) node place limit run there
      step_runs
  came_to items noted = record {
    takes = t;
    at = after.at_items h t.bits many_run items noted;
    room = refl;
    wrote = after.wrote_items h t.bits many_run items noted;
    plan = refl;
  }
