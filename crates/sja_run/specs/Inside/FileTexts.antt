-- What is written of files, portion by portion.
use Rattle.std.specs.Prelude.{◌≡◌, ◌++◌, ℕ, Bool, false, List, Option}
use Rattle.std.specs.Io.KnownBytes.{Appends}
use Rattle.std.specs.List.{list_all}
use Rattle.sja_command_line.specs.declared.plan_question.PlanQuestion.{PlanQuestion}
use Rattle.sja_run.specs.Files.{AreOutcomes, is_printed, of_each, printed_of, refused_of}
use Rattle.sja_run.specs.declared.file_outcome.FileOutcome.{FileOutcome}

-- whether writes had failed and have failed, what a writer held and holds, and what was written where none has failed
abbrev pub Wrote : Bool → Bool → Option (List ℕ) → Option (List ℕ) → List ℕ → Type 0
Wrote was is old new text = is ≡ false → (was ≡ false) × Appends old new text

-- whether several files are named and all so far are answered, whether writes to the output and to the error output had
-- failed and have failed, and what both held and hold: these files with these outcomes are told of
abbrev pub AreTold :
    Bool → Bool → Bool → Bool → Bool → Bool → Option (List ℕ) → Option (List ℕ) → Option (List ℕ) → Option (List ℕ)
    → List (List ℕ) → List FileOutcome → Type 0
AreTold several all out_was out_is err_was err_is out_old out_new err_old err_new names outcomes =
    (all ≡ list_all is_printed outcomes)
    × Wrote out_was out_is out_old out_new (of_each (printed_of several) names outcomes)
    × Wrote err_was err_is err_old err_new (of_each (refused_of several) names outcomes)

-- the first of some files have these outcomes, of which something is told; and the names that are left
pub record AreDone (Holds : List ℕ → Option (List ℕ) → Type 0) (asked : PlanQuestion) (names left : List (List ℕ))
    (before now : Option (List ℕ)) (Told : List (List ℕ) → List FileOutcome → Type 0) : Type 0 where
  pub done : List (List ℕ)
  pub outcomes : List FileOutcome
  pub whole : names ≡ done ++ left
  pub are : AreOutcomes Holds asked done before now outcomes
  pub told : Told done outcomes
