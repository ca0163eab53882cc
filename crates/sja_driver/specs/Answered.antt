-- What a step that was done read (this project's own rule).
use Rattle.std.specs.Prelude.{ℕ}
use Rattle.sja_steps.specs.declared.step_answer.StepAnswer.{StepAnswer}
use Rattle.sja_steps.specs.declared.step_answer.StepAnswer.TheVariants.{Value}

-- what it read, or another number where it read none
abbrev pub value_or : StepAnswer → ℕ → ℕ
value_or (Value value) other = value
value_or answer other = other
