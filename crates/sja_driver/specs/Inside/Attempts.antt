-- A try of a step: what is asked of the end that it is made at, and what it hands out (this project's own rule).
use Rattle.std.specs.Prelude.{◌≡◌, ℕ, Result, Ok, Err}
use Rattle.sja_link.specs.declared.driver_ledger.DriverLedger.{DriverLedger}
use Rattle.sja_regs.specs.declared.reg_fault.RegFault.{RegFault}
use Rattle.sja_steps.specs.declared.step_answer.StepAnswer.{StepAnswer}
use Rattle.sja_steps.specs.declared.step_answer.StepAnswer.TheVariants.{Done, Refused}
use Rattle.sja_driver.specs.declared.any_driver.AnyDriver.{AnyDriver}
use Rattle.sja_driver.specs.declared.attempt.Attempt.{Attempt}
use Rattle.sja_driver.specs.declared.attempt.Attempt.TheVariants.{Unmet as UnmetAttempt, Answered as AnsweredAttempt}
use Rattle.sja_driver.specs.declared.attempt.Attempt.TheVariants.{Released as ReleasedAttempt}
use Rattle.sja_driver.specs.Answers.{refusal_of}
use Rattle.sja_driver.specs.AnyDrivers.{whose}
use Rattle.sja_driver.specs.Tries.{Tried}
use Rattle.sja_driver.specs.Tries.Tried.{Unmet, Answered, Released, Ended}

-- the end is that of the driver's node
abbrev pub FitsEnd : {E : Type 0} → (E → ℕ) → E → AnyDriver → Type 0
FitsEnd node_at e d = node_at e ≡ whose d

-- a step that the port does, or refuses
abbrev pub done_answer : {A : Type 0} → Result A RegFault → StepAnswer
done_answer (Ok x) = Done
done_answer (Err f) = Refused (refusal_of f)

-- what came of a try that ended no activation
abbrev pub tried_of : Attempt → Tried
tried_of UnmetAttempt = Unmet
tried_of (AnsweredAttempt answer) = Answered answer
tried_of (ReleasedAttempt m) = Released m

-- what came of a stop: the ledger of the activation that it ended, or a try that ended none
abbrev pub stopped_by : Result DriverLedger Attempt → Tried
stopped_by (Ok ledger) = Ended ledger
stopped_by (Err attempt) = tried_of attempt
