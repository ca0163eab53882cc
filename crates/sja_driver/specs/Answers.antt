-- What a step answers by the port (this project's own rule).
use Rattle.std.specs.Prelude.{ℕ, Option, Some, None, Result, Ok, Err}
use Rattle.sja_regs.specs.declared.reg_fault.RegFault.{RegFault}
use Rattle.sja_regs.specs.declared.reg_fault.RegFault.TheVariants as fault
use Rattle.sja_steps.specs.declared.refusal.Refusal.{Refusal}
use Rattle.sja_steps.specs.declared.refusal.Refusal.TheVariants as refusal
use Rattle.sja_steps.specs.declared.step_answer.StepAnswer.{StepAnswer}
use Rattle.sja_steps.specs.declared.step_answer.StepAnswer.TheVariants.{Done, Value, Refused}

-- a port's refusal as a step's
abbrev pub refusal_of : RegFault → Refusal
refusal_of fault.NoRegister = refusal.NoRegister
refusal_of fault.ReadOnly = refusal.ReadOnly
refusal_of fault.ResetOnly = refusal.ResetOnly
refusal_of fault.Locked = refusal.Locked
refusal_of fault.UseTyped = refusal.UseTyped
refusal_of fault.NotInVersion = refusal.NotInVersion
refusal_of fault.ActiveOnly = refusal.ActiveOnly
refusal_of fault.ListenOnly = refusal.ListenOnly

-- a step that the port does, or refuses, by the refusal if there is one
abbrev pub done_unless : Option RegFault → StepAnswer
done_unless None = Done
done_unless (Some f) = Refused (refusal_of f)

-- what a read answers
abbrev pub value_answer : Result ℕ RegFault → StepAnswer
value_answer (Ok n) = Value n
value_answer (Err f) = Refused (refusal_of f)
