-- What `run`, `check` and their like do over plans that stand in files (this project's own rule). What comes of each
-- plan hangs on its bytes alone.
use Rattle.std.specs.Prelude.{◌≡◌, ◌⊎◌, ◌++◌, ◌∷◌, ℕ, Bool, true, false, List, [], Option, Some, None}
use Rattle.std.specs.Prelude.{codes, length, nat_lt, if◌then◌else◌}
use Rattle.std.specs.List.{list_all}
use Rattle.std.specs.Io.KnownBytes.{Appends, Keeps}
use Rattle.sja_plan_reading.specs.DocumentLimits.{begins_by_bytes}
use Rattle.sja_command_line.specs.declared.plan_question.PlanQuestion.{PlanQuestion}
use Rattle.sja_command_line.specs.declared.plan_question.PlanQuestion.TheVariants as question
use Rattle.text_codec.specs.Refusal.{refusal_line}
use Rattle.text_codec.specs.declared.command_refusal.CommandRefusal.{CommandRefusal}
use Rattle.text_codec.specs.declared.command_refusal.CommandRefusal.TheVariants as refusal
use Rattle.sja_program.specs.Answer.{picture_or_drawing}
use Rattle.sja_program.specs.Check.{IsExplained, IsFine, IsHinted}
use Rattle.sja_run.specs.Names.{shown_name}
use Rattle.sja_program.specs.Input.{IsRead, IsReadFrom, RefusesInput}
use Rattle.sja_program.specs.PlanDocument.{IsSpelling, RefusesSpelling}
use Rattle.sja_program.specs.Registers.{IsTold, RefusesRegisters}
use Rattle.sja_program.specs.Sweep.{IsStruck, IsSwept, RefusesStruck, RefusesSwept}
use Rattle.sja_run.specs.declared.file_outcome.FileOutcome.{FileOutcome}
use Rattle.sja_run.specs.declared.file_outcome.FileOutcome.TheVariants.{Printed, Told, Mistaken, Refused, Unreadable}
use Rattle.sja_program.specs.declared.run_text.RunText.TheVariants.{Report, Wave, Trace, Frames, Candump}
use Rattle.sja_program.specs.PlanTexts.{IsTextFor, IsTextIn, RefusesTextFor, RefusesTextIn}

-- ---- the plan that some bytes are

-- the text is what was asked of that plan
abbrev pub IsAnswer : PlanQuestion → List ℕ → List ℕ → Type 0
IsAnswer (question.Report threads) bytes text = IsTextIn threads Report bytes text
IsAnswer (question.Wave threads) bytes text = IsTextIn threads Wave bytes text
IsAnswer (question.Trace threads) bytes text = IsTextIn threads Trace bytes text
IsAnswer (question.Frames bits threads) bytes text = IsTextIn threads (Frames bits) bytes text
IsAnswer (question.Picture first last svg threads meant) bytes text =
    IsTextIn threads (picture_or_drawing svg first last meant) bytes text
IsAnswer (question.Candump errors threads) bytes text = IsTextIn threads (Candump errors) bytes text
IsAnswer (question.Sweep w) bytes text = IsTextFor (IsSwept w) bytes text
IsAnswer (question.StruckPlan node bit) bytes text = IsTextFor (IsStruck node bit) bytes text
IsAnswer (question.Check strict) bytes text = IsHinted bytes text × IsFine strict text
IsAnswer (question.Registers bit) bytes text = IsTextFor (IsTold bit) bytes text
IsAnswer question.Plan bytes text = IsSpelling bytes text

-- why there is no answer. `check` has one of a fault of the plan too
abbrev pub IsUnanswered : PlanQuestion → List ℕ → CommandRefusal → Type 0
IsUnanswered (question.Report threads) bytes r = RefusesTextIn threads Report bytes r
IsUnanswered (question.Wave threads) bytes r = RefusesTextIn threads Wave bytes r
IsUnanswered (question.Trace threads) bytes r = RefusesTextIn threads Trace bytes r
IsUnanswered (question.Frames bits threads) bytes r = RefusesTextIn threads (Frames bits) bytes r
IsUnanswered (question.Picture first last svg threads meant) bytes r =
    RefusesTextIn threads (picture_or_drawing svg first last meant) bytes r
IsUnanswered (question.Candump errors threads) bytes r = RefusesTextIn threads (Candump errors) bytes r
IsUnanswered (question.Sweep w) bytes r = RefusesTextFor (RefusesSwept w) bytes r
IsUnanswered (question.StruckPlan node bit) bytes r = RefusesTextFor (RefusesStruck node bit) bytes r
IsUnanswered (question.Check strict) bytes r = r ≡ refusal.OutOfMemory
IsUnanswered (question.Registers bit) bytes r = RefusesTextFor (RefusesRegisters bit) bytes r
IsUnanswered question.Plan bytes r = RefusesSpelling bytes r

-- it is `check`
abbrev pub IsCheck : PlanQuestion → Type 0
IsCheck (question.Check strict) = Unit {0}
IsCheck other = ⊥

-- what was asked of the plan that these bytes are has this outcome
abbrev pub Answers : PlanQuestion → List ℕ → FileOutcome → Type 0
Answers asked bytes (Printed text) = IsAnswer asked bytes text.items
Answers asked bytes (Told text) = (asked ≡ question.Check true) × IsHinted bytes text.items × (¬ IsFine true text.items)
Answers asked bytes (Mistaken text) = (IsCheck asked ⊎ (begins_by_bytes bytes ≡ true)) × IsExplained bytes text.items
Answers asked bytes (Refused r) = IsUnanswered asked bytes r
Answers asked bytes Unreadable = ⊥

-- ---- one file

-- the name that the input has among files
abbrev pub input_name : List ℕ
input_name = codes "-"

-- these bytes were read under a name: of the input, or of what stands there
abbrev pub IsReadAs :
    (List ℕ → Option (List ℕ) → Type 0) → List ℕ → Option (List ℕ) → Option (List ℕ) → List ℕ → Type 0
IsReadAs Holds name before after bytes =
    ((name ≡ input_name) × IsRead before after bytes)
    ⊎ ((whole : List ℕ) × (¬ (name ≡ input_name)) × Holds name (Some whole) × IsReadFrom whole bytes
    × (after ≡ before))

-- why none were: the input gave none; or memory was refused, before anything was read
abbrev pub RefusesName : List ℕ → Option (List ℕ) → Option (List ℕ) → CommandRefusal → Type 0
RefusesName name before after r =
    ((name ≡ input_name) × RefusesInput before after r) ⊎ ((r ≡ refusal.OutOfMemory) × (after ≡ before))

-- no bytes were read under a name, and this is the outcome
abbrev pub IsUnread :
    (List ℕ → Option (List ℕ) → Type 0) → List ℕ → Option (List ℕ) → Option (List ℕ) → FileOutcome → Type 0
IsUnread Holds name before after Unreadable = (¬ (name ≡ input_name)) × Holds name None × (after ≡ before)
IsUnread Holds name before after (Refused r) = RefusesName name before after r
IsUnread Holds name before after (Printed text) = ⊥
IsUnread Holds name before after (Told text) = ⊥
IsUnread Holds name before after (Mistaken text) = ⊥

-- what stands under names, what is asked, a name, what the input held before and holds after, and the outcome
abbrev pub IsOutcome :
    (List ℕ → Option (List ℕ) → Type 0) → PlanQuestion → List ℕ → Option (List ℕ) → Option (List ℕ) → FileOutcome
    → Type 0
IsOutcome Holds asked name before after outcome =
    ((bytes : List ℕ) × IsReadAs Holds name before after bytes × Answers asked bytes outcome)
    ⊎ IsUnread Holds name before after outcome

-- ---- all files

-- the outcomes of files, one after another
abbrev pub AreOutcomes :
    (List ℕ → Option (List ℕ) → Type 0) → PlanQuestion → List (List ℕ) → Option (List ℕ) → Option (List ℕ)
    → List FileOutcome → Type 0
AreOutcomes Holds asked [] before after [] = after ≡ before
AreOutcomes Holds asked [] before after (outcome ∷ outcomes) = ⊥
AreOutcomes Holds asked (name ∷ names) before after [] = ⊥
AreOutcomes Holds asked (name ∷ names) before after (outcome ∷ outcomes) =
    (between : Option (List ℕ)) × IsOutcome Holds asked name before between outcome
    × AreOutcomes Holds asked names between after outcomes

-- the line that stands before what is said of a file, where there are several
abbrev pub name_line : Bool → List ℕ → List ℕ
name_line true name = codes "file " ++ shown_name name ++ 10 ∷ []
name_line false name = []

-- the line of a file that can't be read
abbrev pub unreadable_line : List ℕ → List ℕ
unreadable_line name = codes "sja: can't read " ++ shown_name name ++ 10 ∷ []

-- what is on the output of a file
abbrev pub printed_of : Bool → List ℕ → FileOutcome → List ℕ
printed_of several name (Printed text) = name_line several name ++ text.items
printed_of several name (Told text) = name_line several name ++ text.items
printed_of several name (Mistaken text) = []
printed_of several name (Refused r) = []
printed_of several name Unreadable = []

-- and what is on the error output: of a file that can't be read a line with its name
abbrev pub refused_of : Bool → List ℕ → FileOutcome → List ℕ
refused_of several name (Printed text) = []
refused_of several name (Told text) = []
refused_of several name (Mistaken text) = name_line several name ++ text.items
refused_of several name (Refused r) = name_line several name ++ refusal_line r
refused_of several name Unreadable = unreadable_line name

-- such a text of each file, one after another
abbrev pub of_each : (List ℕ → FileOutcome → List ℕ) → List (List ℕ) → List FileOutcome → List ℕ
of_each text [] outcomes = []
of_each text (name ∷ names) [] = []
of_each text (name ∷ names) (outcome ∷ outcomes) = text name outcome ++ of_each text names outcomes

-- a file is answered, and strictly nothing was left out
abbrev pub is_printed : FileOutcome → Bool
is_printed (Printed text) = true
is_printed (Told text) = false
is_printed (Mistaken text) = false
is_printed (Refused r) = false
is_printed Unreadable = false

-- 0 where all are answered, else 1
abbrev pub status_of : List FileOutcome → ℕ
status_of outcomes = if list_all is_printed outcomes then 0 else 1

-- What stands under names, what is asked of which files, the exit status, and what the input, the output and the error
-- output held before and hold after. Memory may be refused before the first file.
abbrev pub ShowsFiles :
    (List ℕ → Option (List ℕ) → Type 0) → PlanQuestion → List (List ℕ) → ℕ → Option (List ℕ) → Option (List ℕ)
    → Option (List ℕ) → Option (List ℕ) → Option (List ℕ) → Option (List ℕ) → Type 0
ShowsFiles Holds asked names status in_old in_new out_old out_new err_old err_new =
    ((outcomes : List FileOutcome) × AreOutcomes Holds asked names in_old in_new outcomes
    × (status ≡ status_of outcomes)
    × Appends out_old out_new (of_each (printed_of (nat_lt 1 (length names))) names outcomes)
    × Appends err_old err_new (of_each (refused_of (nat_lt 1 (length names))) names outcomes))
    ⊎ ((status ≡ 1) × (in_new ≡ in_old) × Keeps out_old out_new
    × Appends err_old err_new (refusal_line refusal.OutOfMemory))
