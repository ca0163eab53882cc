-- What `run --expect` does over a plan and the report that is expected of it (this project's own rule).
use Rattle.std.specs.Prelude.{◌≡◌, ◌⊎◌, ◌∷◌, ℕ, Bool, true, false, List, [], Option, Some, None}
use Rattle.std.specs.Io.KnownBytes.{Appends}
use Rattle.sja_plan_reading.specs.DocumentLimits.{begins_by_bytes}
use Rattle.sja_plan.specs.Plan.{PlanValue}
use Rattle.sja_placed_strikes.specs.PlanRead.{IsRunPlan}
use Rattle.text_codec.specs.declared.command_refusal.CommandRefusal.TheVariants.{OutOfMemory}
use Rattle.sja_program.specs.Check.{IsExplained}
use Rattle.sja_run.specs.Difference.{IsCompared}
use Rattle.sja_program.specs.PlanTexts.{RefusesTextIn}
use Rattle.sja_run.specs.Files.{IsReadAs, IsUnread, printed_of, refused_of, status_of}
use Rattle.sja_program.specs.RunText.{IsTextOfRun}
use Rattle.sja_run.specs.declared.file_outcome.FileOutcome.{FileOutcome}
use Rattle.sja_run.specs.declared.file_outcome.FileOutcome.TheVariants.{Printed, Told, Mistaken, Refused, Unreadable}
use Rattle.sja_program.specs.declared.run_text.RunText.TheVariants.{Report}

-- this is said of the report of a run of the plan that these bytes are, beside the expected one
abbrev pub HasReport : Bool → List ℕ → List ℕ → Option (List ℕ) → Type 0
HasReport threads bytes expected said =
    (plan : PlanValue) × (report : List ℕ) × IsRunPlan bytes plan × IsTextOfRun threads Report plan report
    × IsCompared plan report expected said

-- what comes of that plan: nothing is printed where its report is the expected one, else the first difference is told;
-- or there is no report. A mistake of a document that says version 3 before all other keys is told as `check` does
abbrev pub Meets : Bool → List ℕ → List ℕ → FileOutcome → Type 0
Meets threads bytes expected (Printed text) = (text.items ≡ []) × HasReport threads bytes expected None
Meets threads bytes expected (Told text) = HasReport threads bytes expected (Some text.items)
Meets threads bytes expected (Mistaken text) = (begins_by_bytes bytes ≡ true) × IsExplained bytes text.items
Meets threads bytes expected (Refused r) = RefusesTextIn threads Report bytes r
Meets threads bytes expected Unreadable = ⊥

-- of what stands under a name as a plan, beside the expected report
abbrev pub MeetsPlan :
    (List ℕ → Option (List ℕ) → Type 0) → Bool → List ℕ → List ℕ → Option (List ℕ) → Option (List ℕ) → FileOutcome
    → Type 0
MeetsPlan Holds threads expected plan before after outcome =
    ((bytes : List ℕ) × IsReadAs Holds plan before after bytes × Meets threads bytes expected outcome)
    ⊎ IsUnread Holds plan before after outcome

-- what comes of the files with the plan and with the report, and of which of both: the report is read first, as a whole
abbrev pub IsMet :
    (List ℕ → Option (List ℕ) → Type 0) → Bool → List ℕ → List ℕ → Option (List ℕ) → Option (List ℕ) → List ℕ
    → FileOutcome → Type 0
IsMet Holds threads plan report before after name outcome =
    ((expected : List ℕ) × Holds report (Some expected) × (name ≡ plan)
    × MeetsPlan Holds threads expected plan before after outcome)
    ⊎ ((outcome ≡ Unreadable) × (name ≡ report) × Holds report None × (after ≡ before))
    ⊎ ((outcome ≡ Refused OutOfMemory) × (name ≡ report) × (after ≡ before))

-- What stands under names, the names of the plan and of its report, the exit status, and what the input, the output and
-- the error output held before and hold after.
abbrev pub ShowsExpected :
    (List ℕ → Option (List ℕ) → Type 0) → Bool → List ℕ → List ℕ → ℕ → Option (List ℕ) → Option (List ℕ)
    → Option (List ℕ) → Option (List ℕ) → Option (List ℕ) → Option (List ℕ) → Type 0
ShowsExpected Holds threads plan report status in_old in_new out_old out_new err_old err_new =
    (name : List ℕ) × (outcome : FileOutcome) × IsMet Holds threads plan report in_old in_new name outcome
    × (status ≡ status_of (outcome ∷ [])) × Appends out_old out_new (printed_of false name outcome)
    × Appends err_old err_new (refused_of false name outcome)
