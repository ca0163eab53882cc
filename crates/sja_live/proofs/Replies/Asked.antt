-- What looks, strikes and questions are answered.
use Rattle.std.proofs.Common.{◌≡◌, ℕ, List, refl, sym, ◌∙◌, subst, inl, inr, arith}
use Rattle.std.specs.Prelude.{Option, Some, None, ◌<◌, ◌≤◌, ◌⊎◌, String, string_bytes}
use Rattle.std.specs.Global.{Global}
use Rattle.sja_driver.specs.StepRuns.{StepRun, step_runs_at}
use Rattle.sja_live.specs.Answering.{Answers, strike_refusal}
use Rattle.sja_live.specs.Answering.Answers.{line, strike, no_strike, nothing, bits, plan, no_plan, no_end}
use Rattle.sja_live.specs.Answering.Answers.{answer as an_answer}
use Rattle.sja_live.specs.Inside.Standing.{IsAnswered, IsLive}
use Rattle.sja_live.specs.declared.live_answer.LiveAnswer.TheVariants.{Told, Lines, Bits as Run, Nothing, PlanSoFar}
use Rattle.sja_live.specs.declared.live_answer.LiveAnswer.TheVariants.{Full, NoPlan}
use Rattle.sja_live.specs.declared.live_answer.LiveAnswer.{LiveAnswer}
use Rattle.sja_live.specs.declared.live_command.LiveCommand.{LiveCommand}
use Rattle.sja_live.specs.declared.live_command.LiveCommand.TheVariants.{Line, Strike, Answer, Bits, Plan}
use Rattle.sja_live.specs.declared.exhausted.Exhausted.TheVariants.{Document}
use Rattle.sja_live.proofs.Spelling.Spelled.{has_texts, live_by, spelled_strike, still_live}
use Rattle.sja_live.proofs.Replies.Told.{stays}
use Rattle.sja_plan.specs.Plan.{PlanValue, IsInLimits}
use Rattle.sja_plan.proofs.PlanLimits.ByVersion.{bits_most}
use Rattle.sja_plan_text.specs.HasTexts.{HasTexts}
use Rattle.sja_plan_text.specs.Written.{IsPlanText, IsTooLong}
use Rattle.sja_plan_text.specs.declared.plan_text_fault.PlanTextFault.{PlanTextFault}
use Rattle.sja_plan_text.specs.declared.plan_text_fault.PlanTextFault.TheVariants.{NoMemory, TooLong}
use Rattle.sja_steps.specs.declared.step_answer.StepAnswer.{StepAnswer}
use Rattle.sja_steps.specs.declared.step_answer.StepAnswer.TheVariants.{Done}
use Rattle.sja_session.specs.Answering.{last_answer}
use Rattle.sja_session.specs.Ending.{IsNoPlan}
use Rattle.sja_session.specs.declared.no_plan.NoPlan.{NoPlan as NoPlanFault}
use Rattle.sja_session.specs.declared.no_plan.NoPlan.TheVariants.{Endless}
use Rattle.sja_session.specs.Lines.{AreLines, IsStill}
use Rattle.sja_session.specs.Sessions.{SessionValue, HasEnd, IsAt, written}
use Rattle.sja_session.specs.Striking.{MayStrike, IsStrikeFault, IsStruck}
use Rattle.sja_session.specs.declared.strike_fault.StrikeFault.{StrikeFault}

-- ---- looks

pub told_lines : (was now : SessionValue) (byte : ℕ) →
    ((step_runs : List (List StepRun)) → IsAt was step_runs → AreLines was step_runs byte) →
    ((step_runs : List (List StepRun)) → IsAt was step_runs → IsStill was now step_runs) →
    IsAnswered was now Line (Lines byte)
told_lines was now byte are still = λ step_runs at.
    let s = still step_runs at.at in (step_runs, line s (are step_runs at.at), still_live at s)

pub told_bits : (was : SessionValue) (run : ℕ) → run ≡ was.run.bits → IsAnswered was was Bits (Run run)
told_bits was run is =
    λ step_runs at. (step_runs, subst (λ n. Answers was was step_runs Bits (Run n) step_runs) (sym is) (bits refl), at)

-- ---- a session that is live stays so

pub live_after : (was now : SessionValue) (command : LiveCommand) (told : LiveAnswer) → IsLive was →
    IsAnswered was now command told → IsLive now
live_after was now command told live answered = let a = answered live.0 live.1 in (a.0, a.2)

-- ---- strikes

-- a strike leaves how many bits there are
struck_end : (was now : SessionValue) (node place : ℕ) (step_runs : List (List StepRun)) →
    IsStruck was now node place step_runs → HasEnd now → HasEnd was
struck_end was now node place step_runs s end = subst HasEnd s.is end

pub told_strike : (was now : SessionValue) (node place : ℕ) → MayStrike was node place →
    ((step_runs : List (List StepRun)) → IsAt was step_runs → IsStruck was now node place step_runs) → node < 256 →
    IsAnswered was now (Strike node place) (Told Done)
told_strike was now node place may h k = λ step_runs at. let s = h step_runs at.at in (
  step_runs,
  strike may s,
  live_by s.at (λ end. s.wrote) (λ end.
      let had = struck_end was now node place step_runs s end in let within = may.within in
      let all = bits_most was.plan.version in
      spelled_strike (written was) node place (at.spelled had) (omega (arith, k)) (omega (arith, had, within, all))),
)

pub not_strike : (was now : SessionValue) (node place : ℕ) (fault : StrikeFault) (told : Option LiveAnswer)
    (answer : LiveAnswer) → IsStrikeFault was node place fault → told ≡ strike_refusal fault → told ≡ Some answer →
    now ≡ was → IsAnswered was now (Strike node place) answer
not_strike was now node place fault told answer f is some e =
    λ step_runs at. (step_runs, no_strike fault f (sym is ∙ some) e, stays was now step_runs e at)

-- ---- questions

pub told_answer : (was : SessionValue) (node : ℕ) (told : Option StepAnswer) (answer : StepAnswer) →
    ((step_runs : List (List StepRun)) → IsAt was step_runs → told ≡ last_answer (step_runs_at step_runs node)) →
    told ≡ Some answer → IsAnswered was was (Answer node) (Told answer)
told_answer was node told answer h some =
    λ step_runs at. (step_runs, an_answer (sym (h step_runs at.at) ∙ some) refl, at)

pub told_nothing : (was : SessionValue) (node : ℕ) (told : Option StepAnswer) →
    ((step_runs : List (List StepRun)) → IsAt was step_runs → told ≡ last_answer (step_runs_at step_runs node)) →
    told ≡ None → IsAnswered was was (Answer node) Nothing
told_nothing was node told h no_answer =
    λ step_runs at. (step_runs, nothing (sym (h step_runs at.at) ∙ no_answer) refl, at)

-- the plan so far has texts
pub spelled_plan : (was : SessionValue) (p : PlanValue) → p ≡ written was → IsInLimits p → IsLive was → HasTexts p
spelled_plan was p is limits live =
    subst HasTexts (sym is) (has_texts was live.0 live.1 (subst IsInLimits is limits))

pub told_plan : (was : SessionValue) (p : PlanValue) (document : String Global) → HasEnd was → p ≡ written was →
    IsPlanText p (string_bytes document) → IsAnswered was was Plan (PlanSoFar document)
told_plan was p document end is text =
    λ step_runs at. (step_runs, plan end (subst (λ q. IsPlanText q (string_bytes document)) is text) refl, at)

pub not_plan : (was : SessionValue) (p : PlanValue) (e : PlanTextFault) → HasEnd was → p ≡ written was →
    (e ≡ NoMemory) ⊎ ((e ≡ TooLong) × IsTooLong p) → e ≡ TooLong → IsAnswered was was Plan (Full Document)
not_plan was p e end is (inl other) long = absurd cc
not_plan was p e end is (inr both) long = λ step_runs at. (step_runs, no_plan end (subst IsTooLong is both.1) refl, at)

pub told_no_end : (was : SessionValue) (fault : NoPlanFault) → IsNoPlan was fault → fault ≡ Endless →
    IsAnswered was was Plan NoPlan
told_no_end was fault endless is =
    λ step_runs at. (step_runs, no_end (subst (λ f. IsNoPlan was f) is endless) refl, at)
