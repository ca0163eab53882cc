-- How a session of `sja live` ends: its log, and the text that is written (this project's own rule).
use Rattle.std.specs.Prelude.{◌≡◌, ◌⊎◌, List}
use Rattle.sja_driver.specs.StepRuns.{StepRun}
use Rattle.sja_promises.specs.Headline.{AreAccounts}
use Rattle.sja_log.specs.Log.{RunValue}
use Rattle.sja_promises.specs.Runs.{IsSerialRun}
use Rattle.sja_log.specs.declared.end.End.TheVariants.{Turns as TurnsDone}
use Rattle.sja_serial.specs.Accounts.{AreAccountsNow}
use Rattle.sja_serial.specs.Ending.{IsLogOf}
use Rattle.sja_session.specs.Sessions.{SessionValue, HasEnd, IsEndless, written}
use Rattle.sja_live.specs.AnswerTexts.{no_report_text}
use Rattle.sja_plan_reading.specs.Words.{Text}
use Rattle.text_report.specs.ReportLines.{report_text}

-- the log has the session's own bits, journals and steps, and is that of a run in one thread of the plan that it wrote.
-- Each driver's messages are accounted for in it
pub record IsLastLog (s : SessionValue) (step_runs : List (List StepRun)) (log : RunValue) : Type 0 where
  pub own : IsLogOf (written s) s.run step_runs TurnsDone log
  pub run : IsSerialRun (written s) log
  pub accounts : AreAccounts log

-- the text at the end is the report of such a log; without an end there is none, and that is said. The messages of each
-- driver are accounted for all the same, in each activation that has begun: where one goes on, what was released so far
-- and what lies unread
abbrev pub IsLastText : SessionValue → List (List StepRun) → Text → Type 0
IsLastText s step_runs text =
    (HasEnd s × (log : RunValue) × IsLastLog s step_runs log × (text ≡ report_text log))
    ⊎ (IsEndless s × AreAccountsNow s.run × (text ≡ no_report_text))
