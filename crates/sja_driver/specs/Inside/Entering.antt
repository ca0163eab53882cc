-- What is entered in the log of what came of a try.
use Rattle.std.specs.Prelude.{◌≡◌, ◌<◌, ◌++◌, ℕ, Option, length}
use Rattle.sja_steps.specs.declared.step_answer.StepAnswer.{StepAnswer}
use Rattle.sja_driver.specs.declared.work_log.WorkLog.{WorkLog}
use Rattle.sja_driver.specs.Logs.{releases_in, left_in, release_room, left_room, releases_by, left_by}
use Rattle.sja_driver.specs.Tries.{Tried, answer_of}
use Rattle.sja_driver.specs.Tries.Tried.{Unmet, Answered, Released, Ended}

-- where so many activations have ended, the one in which a message was released or that was ended is among the first so
-- many
abbrev pub IsAmong : ℕ → ℕ → Tried → Type 0
IsAmong ended many Unmet = Unit {0}
IsAmong ended many (Answered answer) = Unit {0}
IsAmong ended many (Released m) = ended < many
IsAmong ended many (Ended ledger) = ended < many

-- what came of a try was entered; the step has this answer, if it is done
pub record Enters (was now : WorkLog) (o : Tried) (answer : Option StepAnswer) : Type 0 where
  pub met : answer ≡ answer_of o
  pub done : now.done ≡ was.done
  pub released : releases_in now ≡ releases_in was ++ releases_by (length (left_in was)) o
  pub left : left_in now ≡ left_in was ++ left_by o
  -- the room stays
  pub release_room : release_room now ≡ release_room was
  pub left_room : left_room now ≡ left_room was
