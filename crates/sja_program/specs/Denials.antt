-- Why what is asked of a plan has no answer: in one line, or as `check` tells the mistake of its document.
use Rattle.std.specs.Prelude.{◌≡◌, ℕ, true, List, Option}
use Rattle.sja_plan_reading.specs.DocumentLimits.{begins_by_bytes}
use Rattle.sja_command_line.specs.Requests.{Request}
use Rattle.text_codec.specs.Refusal.{refusal_line}
use Rattle.text_codec.specs.declared.command_refusal.CommandRefusal.{CommandRefusal}
use Rattle.sja_program.specs.Answer.{AsksForRun, IsRefused}
use Rattle.sja_program.specs.Check.{HasMistakeByBytes, IsExplained}
use Rattle.sja_program.specs.declared.unanswered.Unanswered.{Unanswered}
use Rattle.sja_program.specs.declared.unanswered.Unanswered.TheVariants.{Refused, Mistaken}

-- what is on the error output
abbrev pub told_of : Unanswered → List ℕ
told_of (Refused r) = refusal_line r
told_of (Mistaken text) = text.items

-- of bytes
abbrev pub DeniesOf : (CommandRefusal → Type 0) → List ℕ → Unanswered → Type 0
DeniesOf Refuses bytes (Refused r) = Refuses r
DeniesOf Refuses bytes (Mistaken text) = (begins_by_bytes bytes ≡ true) × IsExplained bytes text.items

-- of those that were read, by what the input held before and holds after
abbrev pub Denies :
    (Option (List ℕ) → Option (List ℕ) → CommandRefusal → Type 0) → Option (List ℕ) → Option (List ℕ) → Unanswered
    → Type 0
Denies Refuses before after (Refused r) = Refuses before after r
Denies Refuses before after (Mistaken text) = HasMistakeByBytes before after text.items

-- of a request
abbrev pub IsDenied : Request → Option (List ℕ) → Option (List ℕ) → Unanswered → Type 0
IsDenied request before after (Refused r) = IsRefused request before after r
IsDenied request before after (Mistaken text) = AsksForRun request × HasMistakeByBytes before after text.items
