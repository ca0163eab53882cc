use Rattle.std.proofs.Common.{rules, ◌≡◌, refl, subst, inl, inr}
use Rattle.std.specs.Io.KnownBytes.{Appends}
use Rattle.std.proofs.lemmas.Result.{on_ok_weaker}
use Rattle.sja_promises.specs.Runs.{IsSerialRun}
use Rattle.sja_log.specs.declared.end.End.TheVariants.{Turns as TurnsDone}
use Rattle.sja_plan.specs.Plan.{PlanValue}
use Rattle.sja_live.specs.AnswerTexts.{no_report_text}
use Rattle.text_report.specs.ReportLines.{report_text}
use Rattle.sja_serial.specs.Ending.{IsLogOf}
use Rattle.sja_session.specs.Ending.{IsNoPlan}
use Rattle.sja_session.specs.declared.no_plan.NoPlan.TheVariants.{Endless}
use Rattle.sja_live.proofs.talking.put_report.Goals as goal

-- the log is the session's own, and its report was written
pub returns-in_ok-text-in-Ok-clause-told : goal.returns-in_ok-text-in-Ok-clause-told
returns-in_ok-text-in-Ok-clause-told g c =
    let both = c.in-Ok in let log = both.log in let s = c.args.session in
    let text : c.as_str.result.now ≡ report_text log = cc (c.in_ok-text-in-Ok.ensures) in
    on_ok_weaker c.put.result (λ wrote step_runs at. (
      report_text log,
      inl (
        both.ensures.end,
        log,
        record {
          own = subst (λ (p : PlanValue). IsLogOf p s.run step_runs TurnsDone log) both.ensures.plan
              (both.ensures.own step_runs at.at);
          run = subst (λ (p : PlanValue). IsSerialRun p log) both.ensures.plan both.ensures.run;
          accounts = both.ensures.headline;
        },
        refl,
      ),
      subst (Appends _ _) text wrote,
    )) c.put.ensures.told

-- without an end there is none, and that was said
pub returns-in-Err-Endless-clause-told : goal.returns-in-Err-Endless-clause-told
returns-in-Err-Endless-clause-told g c =
    let is : c.in-Err-Endless.field-0 ≡ Endless = search rules in
    let endless = subst (λ f. IsNoPlan c.args.session f) is c.in-Err-Endless.ensures.err in
    on_ok_weaker c.put-in-Err-Endless.result (λ wrote step_runs at. (
      no_report_text,
      inr (endless, c.accounts.ensures.headline, refl),
      wrote,
    )) c.put-in-Err-Endless.ensures.told
