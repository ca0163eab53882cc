-- What a step gives (this project's own rule).
use Rattle.std.specs.Prelude.{◌≡◌, Option, []}
use Rattle.sja_regs.specs.declared.registers.Registers.{Registers}
use Rattle.sja_steps.specs.declared.step.Step.{Step}
use Rattle.sja_steps.specs.declared.step_answer.StepAnswer.{StepAnswer}
use Rattle.sja_driver.specs.Tries.{Tried, answer_of, gave_by}

-- a step that gives the bus nothing, whatever the registers are and whatever comes of it
abbrev pub GivesNothing : Step → Type 0
GivesNothing s = (p : Registers) (o : Tried) → gave_by p s o ≡ []

-- a step gave the bus nothing that was answered so, or that isn't done: whatever the registers were
abbrev pub GaveNothing : Step → Option StepAnswer → Type 0
GaveNothing s answer = (p : Registers) (o : Tried) → answer ≡ answer_of o → gave_by p s o ≡ []
