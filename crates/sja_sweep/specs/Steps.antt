-- What is said of the steps that a driver did without a strike, and with it (this project's own rule).
use Rattle.std.specs.Prelude.{◌+◌, ◌==◌, ◌||◌, ℕ, Bool, false, max, if◌then◌else◌, Option, Some, None, List, [], ◌++◌}
use Rattle.std.specs.Prelude.{length, codes, decimal, slice_get}
use Rattle.std.specs.List.{range_with_len}
use Rattle.std.specs.Str.{bytes_eq}
use Rattle.lemmas.specs.Gathering.{gathered}
use Rattle.sja_plan.specs.Plan.{PlanValue, steps_at}
use Rattle.sja_steps.specs.declared.step_record.StepRecord.{StepRecord}
use Rattle.sja_steps.specs.declared.step.Step.{Step}
use Rattle.sja_steps.specs.declared.step.Step.TheVariants.{Read}
use Rattle.text_report.specs.ReportWords.{answer_words}
use Rattle.text_report.specs.Spacing.{all_spaced}

-- a step of a node: it counts from 1, its place from 0
abbrev pub step_words : ℕ → ℕ → List ℕ
step_words k i = codes "; node " ++ (decimal k ++ (codes " step " ++ decimal (i + 1)))

-- what a step answers, each word behind a space, as the report has it
abbrev pub answer_text : StepRecord → List ℕ
answer_text d = all_spaced (answer_words d.answer)

-- whether a step reads ECC (SJA1000 data sheet, 6.4.9, error code capture register)
abbrev pub reads_ecc : Option Step → Bool
reads_ecc None = false
reads_ecc (Some (Read address)) = address == 12
reads_ecc (Some other) = false

-- a step that isn't done any more, or that answers otherwise, unless this step is left out as a read of ECC
abbrev pub step_item : Option Step → ℕ → ℕ → Option StepRecord → Option StepRecord → List ℕ
step_item out k i None None = []
step_item out k i (Some d) None = step_words k i ++ codes " not done"
step_item out k i None (Some e) = step_words k i ++ answer_text e
step_item out k i (Some d) (Some e) =
    if bytes_eq (answer_text d) (answer_text e) || reads_ecc out then [] else step_words k i ++ answer_text e

-- the script of a node, of which other answers to reads of ECC are left out; no step where all are told
abbrev pub script_at : Option PlanValue → ℕ → List Step
script_at None k = []
script_at (Some plan) k = steps_at plan k

-- all that is said of a node's steps, by the script that is left out so
abbrev pub step_items : List Step → ℕ → List StepRecord → List StepRecord → List ℕ
step_items script k without now =
    gathered (λ i. step_item (slice_get script i) k i (slice_get without i) (slice_get now i))
    (range_with_len 0 (max (length without) (length now)))
