-- What a controller ignores of the steps of a driver that knows addresses and bytes alone (SJA1000 data sheet, 6.4).
use Rattle.std.specs.Prelude.{◌==◌, if◌then◌else◌, Option, Some, None}
use Rattle.sja_steps.specs.declared.ignored.Ignored.{Ignored}
use Rattle.sja_steps.specs.declared.ignored.Ignored.TheVariants.{WriteOnly}
use Rattle.sja_steps.specs.declared.step.Step.{Step}
use Rattle.sja_steps.specs.declared.step.Step.TheVariants.{Read}
use Rattle.sja_steps.specs.declared.step_answer.StepAnswer.{StepAnswer}
use Rattle.sja_steps.specs.declared.step_answer.StepAnswer.TheVariants.{Value, Ignored as IgnoredAnswer}

-- CMR, at address 1, can only be written: a read that answers a value is for nothing (6.4.4)
abbrev pub ignored_read : Step → Option Ignored
ignored_read (Read address) = if address == 1 then Some WriteOnly else None
ignored_read other = None

-- why the controller ignored a step that answered so, if it did: a write says so in its answer
abbrev pub ignored_in : Step → StepAnswer → Option Ignored
ignored_in this (IgnoredAnswer cause) = Some cause
ignored_in this (Value value) = ignored_read this
ignored_in this other = None
