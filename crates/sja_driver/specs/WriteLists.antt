-- The steps of a typed driver that a write is, as values (this project's own rule).
use Rattle.std.specs.Prelude.{◌++◌, Option, Some, None, List, [], ◌∷◌}
use Rattle.sja_steps.specs.declared.step.Step.{Step}
use Rattle.sja_steps.specs.declared.step.Step.TheVariants.{Await, Sent, Interrupt, At}
use Rattle.sja_driver.specs.declared.write_steps.WriteSteps.{WriteSteps}

-- one step, or none
abbrev pub listed : Option Step → List Step
listed None = []
listed (Some step) = step ∷ []

-- those of a write, in order
abbrev pub steps_in : WriteSteps → List Step
steps_in w = listed w.first ++ (listed w.second ++ listed w.third)

-- a step that waits for no message, for no end of a request, for no line and for no bit: it is tried again only where a
-- link gives its item back
abbrev pub IsPrompt : Step → Type 0
IsPrompt (Await count) = ⊥
IsPrompt Sent = ⊥
IsPrompt Interrupt = ⊥
IsPrompt (At bits) = ⊥
IsPrompt other = Unit {0}

abbrev pub IsPromptIf : Option Step → Type 0
IsPromptIf None = Unit {0}
IsPromptIf (Some step) = IsPrompt step

-- each of these steps is prompt
abbrev pub ArePrompt : WriteSteps → Type 0
ArePrompt w = IsPromptIf w.first × IsPromptIf w.second × IsPromptIf w.third
