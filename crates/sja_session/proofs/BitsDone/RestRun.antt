-- Bits of a session until all are at rest.
use Rattle.std.proofs.Common.{◌≡◌, ℕ, ◌-◌, ◌<◌, ◌≤◌, Bool, List, refl, arith, inl, inr}
use Rattle.std.specs.Prelude.{◌⊎◌}
use Rattle.std.proofs.lemmas.Bool.{cases_lt}
use Rattle.sja_plan.specs.declared.turn.Turn.{Turn}
use Rattle.sja_plan.specs.Limits.{most_bits}
use Rattle.sja_plan.specs.Plan.{PlanValue}
use Rattle.sja_plan.proofs.PlanLimits.ByVersion.{bits_most}
use Rattle.sja_steps.specs.declared.step.Step.{Step}
use Rattle.sja_driver.specs.StepRuns.{StepRun}
use Rattle.sja_serial.specs.Bits.{TakesRest}
use Rattle.sja_serial.specs.Serial.{SerialValue, all_acts}
use Rattle.sja_session.specs.SessionRest.{Rests}
use Rattle.sja_session.specs.declared.session_room.SessionRoom.{SessionRoom}
use Rattle.sja_session.specs.Sessions.{session_of, setup_by, IsAt}
use Rattle.sja_session.specs.Inside.Written.{with_bits}
use Rattle.sja_session.proofs.BitsDone.AfterBits as after

module _ {room : SessionRoom} {plan : PlanValue} {was now : SerialValue} {steps : List (List Step)} {turns : List Turn}
    {step_runs : List (List StepRun)}
    {run : ℕ} {rests : Bool} (h : IsAt (session_of room was plan steps turns) step_runs)
    (t : TakesRest (setup_by (session_of room was plan steps turns)) (all_acts step_runs) was now 2000000
    rests)
    (is : run ≡ now.bits - was.bits) (items : List Turn)
    (noted : plan.bits ≤ most_bits plan.version → items ≡ with_bits turns run) where
  -- so many are more than a plan has, or as many
  last : (t.run ≡ 2000000) ⊎ (now.bits ≡ plan.bits) →
      (now.bits ≡ plan.bits) ⊎ ((most_bits plan.version < plan.bits) × (run ≡ 2000000))
  last (inr spent) = inl spent
  last (inl all) = elim (cases_lt (most_bits plan.version) plan.bits) [
    | inl endless ↦ inr (endless, let e = after.run_is h t.bits is in omega (arith, e, all))
    | inr end ↦ inl
        (let e = after.run_is h t.bits is in let m = after.many h t.bits is in let limit = bits_most plan.version in
        let stands = (after.stands_now h t.bits is).stands in let few = stands.all_bits in let own = stands.bits in
        omega (arith, e, all, m, end, limit, few, own))
  ]

  pub rested : Rests (session_of room was plan steps turns) (session_of room now plan steps items) run
      rests step_runs
  rested = record {
    bits = after.bits_now h t.bits is;
    whole = t.whole;
    spent = λ no. let s = t.spent no in (s.0, last s.1);
    at = after.at_items h t.bits is items noted;
    room = refl;
    wrote = after.wrote_items h t.bits is items noted;
    plan = refl;
  }
