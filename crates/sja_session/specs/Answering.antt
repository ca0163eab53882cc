-- The last answer of a driver (this project's own rule).
use Rattle.std.specs.Prelude.{Option, Some, None, List, [], ◌∷◌}
use Rattle.sja_steps.specs.declared.step_answer.StepAnswer.{StepAnswer}
use Rattle.sja_driver.specs.StepRuns.{StepRun}

-- f of the last element of a list; none of an empty one
abbrev pub last_of : {X Y : Type 0} → (X → Y) → List X → Option Y
last_of f [] = None
last_of f (x ∷ []) = Some (f x)
last_of f (x ∷ y ∷ xs) = last_of f (y ∷ xs)

-- what the last of these steps answered
abbrev pub last_answer : List StepRun → Option StepAnswer
last_answer step_runs = last_of (λ (a : StepRun). a.answer) step_runs
