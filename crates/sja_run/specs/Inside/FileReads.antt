-- Plans that are read under names, and then answered.
use Rattle.std.specs.Prelude.{◌≡◌, ◌∷◌, ℕ, Bool, List, [], Option, Result, Ok, Err, map}
use Rattle.std.specs.List.{AllZip}
use Rattle.sja_command_line.specs.declared.plan_question.PlanQuestion.{PlanQuestion}
use Rattle.text_codec.specs.declared.command_refusal.CommandRefusal.TheVariants.{OutOfMemory}
use Rattle.sja_run.specs.Expected.{Meets}
use Rattle.sja_run.specs.Files.{Answers, IsReadAs, IsUnread}
use Rattle.sja_run.specs.declared.file_outcome.FileOutcome.{FileOutcome}
use Rattle.sja_run.specs.declared.file_outcome.FileOutcome.TheVariants.{Refused}

-- what was read under a name: bytes, which stand in a V; or no bytes, and what came of the file
abbrev pub IsReadOf :
    {V : Type 0} → (V → List ℕ) → (List ℕ → Option (List ℕ) → Type 0) → List ℕ → Option (List ℕ) → Option (List ℕ)
    → Result V FileOutcome → Type 0
IsReadOf items Holds name before after (Ok bytes) = IsReadAs Holds name before after (items bytes)
IsReadOf items Holds name before after (Err outcome) = IsUnread Holds name before after outcome

-- under several names, one after another
abbrev pub AreReads :
    {V : Type 0} → (V → List ℕ) → (List ℕ → Option (List ℕ) → Type 0) → List (List ℕ) → Option (List ℕ)
    → Option (List ℕ) → List (Result V FileOutcome) → Type 0
AreReads items Holds [] before after [] = after ≡ before
AreReads items Holds [] before after (read ∷ reads) = ⊥
AreReads items Holds (name ∷ names) before after [] = ⊥
AreReads items Holds (name ∷ names) before after (read ∷ reads) =
    (between : Option (List ℕ)) × IsReadOf items Holds name before between read
    × AreReads items Holds names between after reads

-- what comes of what was read
abbrev pub ComesOf : {V : Type 0} → (V → List ℕ) → PlanQuestion → Result V FileOutcome → FileOutcome → Type 0
ComesOf items asked (Ok bytes) outcome = Answers asked (items bytes) outcome
ComesOf items asked (Err given) outcome = outcome ≡ given

-- of each
abbrev pub ComeOf : {V : Type 0} → (V → List ℕ) → PlanQuestion → List (Result V FileOutcome) → List FileOutcome → Type 0
ComeOf items asked reads outcomes = AllZip (ComesOf items asked) reads outcomes

-- the second may stand for the first: what comes of it comes of the first too
abbrev pub Settles :
    {V : Type 0} → (V → List ℕ) → PlanQuestion → Result V FileOutcome → Result V FileOutcome → Type 0
Settles items asked before after =
    (outcome : FileOutcome) → ComesOf items asked after outcome → ComesOf items asked before outcome

-- what comes of a plan that was read, beside the report that is expected
abbrev pub IsMetBy : {V : Type 0} → (V → List ℕ) → Bool → List ℕ → Result V FileOutcome → FileOutcome → Type 0
IsMetBy items threads expected (Ok bytes) outcome = Meets threads (items bytes) expected outcome
IsMetBy items threads expected (Err given) outcome = outcome ≡ given

-- memory is refused for each file
abbrev pub all_refused : List (List ℕ) → List FileOutcome
all_refused names = map (λ name. Refused OutOfMemory) names

-- the outcomes of files, which stand in a V, where memory wasn't refused for all of them
abbrev pub outcomes_in : {V E : Type 0} → (V → List FileOutcome) → List (List ℕ) → Result V E → List FileOutcome
outcomes_in items names (Ok outcomes) = items outcomes
outcomes_in items names (Err refused) = all_refused names
