use Rattle.std.proofs.Common.{All, take}
use Rattle.sja_plan_text.specs.HasTexts.{HasStepText}
use Rattle.sja_plan_text.proofs.writable.steps_have_texts.Given as goal

-- the steps so far have texts
abbrev pub invariant-loop-step : goal.invariant-loop-step
invariant-loop-step l = All (HasStepText l.version) (take l.step-index l.steps)
