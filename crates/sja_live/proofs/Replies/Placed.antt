-- What places, and bits up to one, are answered.
use Rattle.std.proofs.Common.{◌≡◌, ℕ, ◌<◌, true, false, List, length, refl, sym, ◌∙◌, subst}
use Rattle.std.specs.Prelude.{Option, Some, None}
use Rattle.sja_driver.specs.StepRuns.{StepRun}
use Rattle.sja_live.specs.Answering.{Answers, place_refusal}
use Rattle.sja_live.specs.Answering.Answers.{came, away, no_way, at as at_place, nowhere}
use Rattle.sja_live.specs.Inside.Standing.{IsAnswered}
use Rattle.sja_live.specs.declared.live_answer.LiveAnswer.{LiveAnswer}
use Rattle.sja_live.specs.declared.live_answer.LiveAnswer.TheVariants.{Ran, Spent, At, Nothing}
use Rattle.sja_live.specs.declared.live_command.LiveCommand.TheVariants.{To, PlaceOf}
use Rattle.sja_live.proofs.Replies.Told.{stays}
use Rattle.sja_live.proofs.Spelling.Spelled.{had_end, live_by, spelled_bits}
use Rattle.sja_plan.specs.declared.place.Place.{Place}
use Rattle.sja_serial.specs.SerialPlaces.{IsPlace}
use Rattle.sja_session.specs.SessionPlaces.{RunsTo, MayRunTo, IsPlaceRefusal}
use Rattle.sja_session.specs.Sessions.{SessionValue, IsAt, written}
use Rattle.sja_session.specs.declared.place_refusal.PlaceRefusal.{PlaceRefusal}
use Rattle.sja_bus_rules.specs.Wire.{journal_at}

pub told_came : (was now : SessionValue) (node limit run : ℕ) (place : Place) → MayRunTo was node limit →
    ((step_runs : List (List StepRun)) → IsAt was step_runs → RunsTo was now node place limit run true step_runs) →
    IsAnswered was now (To node place limit) (Ran run)
told_came was now node limit run place may runs = λ step_runs at.
    let r = runs step_runs at.at in (
      step_runs,
      came may r,
      live_by r.at (λ end. r.wrote (had_end r.plan end))
          (λ end. spelled_bits (written was) run (at.spelled (had_end r.plan end))),
    )

pub told_away : (was now : SessionValue) (node limit run : ℕ) (place : Place) → MayRunTo was node limit →
    ((step_runs : List (List StepRun)) → IsAt was step_runs → RunsTo was now node place limit run false step_runs) →
    IsAnswered was now (To node place limit) (Spent run)
told_away was now node limit run place may runs = λ step_runs at.
    let r = runs step_runs at.at in (
      step_runs,
      away may r,
      live_by r.at (λ end. r.wrote (had_end r.plan end))
          (λ end. spelled_bits (written was) run (at.spelled (had_end r.plan end))),
    )

pub told_no_way : (was now : SessionValue) (node limit : ℕ) (place : Place) (fault : PlaceRefusal)
    (answer : LiveAnswer) → IsPlaceRefusal was node limit fault → answer ≡ place_refusal fault → now ≡ was →
    IsAnswered was now (To node place limit) answer
told_no_way was now node limit place fault answer f is e = λ step_runs at. (
  step_runs,
  subst (λ (a : LiveAnswer). Answers was now step_runs (To node place limit) a step_runs) (sym is) (no_way fault f e),
  stays was now step_runs e at,
)

-- a node is at a place, or at none
abbrev pub IsPlaceThere : SessionValue → ℕ → Option Place → Type 0
IsPlaceThere s node shown =
    node < length s.plan.nodes → IsPlace (journal_at s.run.bus.journals node) shown

pub told_place : (was : SessionValue) (node : ℕ) (shown : Option Place) (place : Place) →
    IsPlaceThere was node shown → shown ≡ Some place → IsAnswered was was (PlaceOf node) (At place)
told_place was node shown place is some =
    λ step_runs at. (step_runs, at_place (subst (IsPlaceThere was node) some is) refl, at)

pub told_nowhere : (was : SessionValue) (node : ℕ) (shown : Option Place) →
    IsPlaceThere was node shown → shown ≡ None → IsAnswered was was (PlaceOf node) Nothing
told_nowhere was node shown is none =
    λ step_runs at. (step_runs, nowhere (subst (IsPlaceThere was node) none is) refl, at)
