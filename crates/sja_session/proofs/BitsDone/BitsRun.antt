-- Bits of a session, as many as were asked for or as are left.
use Rattle.std.proofs.Common.{◌≡◌, ℕ, ◌-◌, ◌≤◌, Bool, true, false, List, refl, sym, ◌∙◌, arith, inl, inr}
use Rattle.std.specs.Prelude.{◌⊎◌}
use Rattle.sja_plan.specs.declared.turn.Turn.{Turn}
use Rattle.sja_plan.specs.Limits.{most_bits}
use Rattle.sja_plan.specs.Plan.{PlanValue}
use Rattle.sja_steps.specs.declared.step.Step.{Step}
use Rattle.sja_driver.specs.StepRuns.{StepRun}
use Rattle.sja_serial.specs.Bits.{TakesBusTurn}
use Rattle.sja_driver.specs.TypedActs.{TypedAct}
use Rattle.sja_serial.specs.Serial.{Setup, SerialValue, all_acts}
use Rattle.sja_session.specs.Running.{RunsBits}
use Rattle.sja_session.specs.declared.session_room.SessionRoom.{SessionRoom}
use Rattle.sja_session.specs.Sessions.{session_of, setup_by, IsAt}
use Rattle.sja_session.specs.Inside.Written.{with_bits}
use Rattle.sja_session.proofs.BitsDone.AfterBits as after

-- a turn of the bus has no more bits than were asked for
pub turn_most : {setup : Setup} {acts : List (List TypedAct)} {was now : SerialValue} {count : ℕ} {all : Bool}
    (t : TakesBusTurn setup acts was now count all) → t.run ≤ count
turn_most {all = true} t = let w = t.whole refl in omega (arith, w)
turn_most {all = false} t = let s = t.spent refl in let f = s.0 in omega (arith, f)

module _ {room : SessionRoom} {plan : PlanValue} {was now : SerialValue} {steps : List (List Step)} {turns : List Turn}
    {step_runs : List (List StepRun)}
    {count run : ℕ} {all : Bool} (h : IsAt (session_of room was plan steps turns) step_runs)
    (t : TakesBusTurn (setup_by (session_of room was plan steps turns)) (all_acts step_runs) was now count all)
    (is : run ≡ now.bits - was.bits) (items : List Turn)
    (noted : plan.bits ≤ most_bits plan.version → items ≡ with_bits turns run) where
  within : (b : Bool) → all ≡ b → (run ≤ count) × ((run ≡ count) ⊎ (now.bits ≡ plan.bits))
  within true e =
      let w = t.whole e in let r = after.run_is h t.bits is in (omega (arith, w, r), inl (sym r ∙ w))
  within false e =
      let s = t.spent e in let r = after.run_is h t.bits is in let f = s.0 in (omega (arith, f, r), inr s.1)

  pub runs : RunsBits (session_of room was plan steps turns) (session_of room now plan steps items)
      count run step_runs
  runs = record {
    bits = after.bits_now h t.bits is;
    most = (within all refl).0;
    whole = (within all refl).1;
    at = after.at_items h t.bits is items noted;
    room = refl;
    wrote = after.wrote_items h t.bits is items noted;
    plan = refl;
  }
