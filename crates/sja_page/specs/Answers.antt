-- What the program answers to a page (this project's own rule): what it does for a command line, and both texts in one
-- room.
use Rattle.std.specs.Prelude.{◌≡◌, ◌⊎◌, ◌+◌, ◌<◌, ◌≤◌, ◌++◌, ℕ, List, [], Option, Some, false, length, drop, codes}
use Rattle.std.specs.Prelude.{IsUtf8}
use Rattle.sja_page.specs.CommandLines.{AreWords}
use Rattle.sja_page.specs.declared.answer.PageAnswer.{PageAnswer}
use Rattle.sja_page.specs.Outcomes.{status_of}
use Rattle.sja_page.specs.declared.outcome.Outcome.{Outcome}
use Rattle.sja_page.specs.declared.outcome.Outcome.TheVariants.{Ended, LeftOver, NoRoom, NoMemory}
use Rattle.sja_program.specs.Answer.{IsLeft, IsLeftOver, IsTurnedAway, Shows}
use Rattle.sja_command_line.specs.Requests.{Request}
use Rattle.sja_command_line.specs.Words.{ParsesAs}

-- what the program prints (`out`) and tells (`err`) for these words over a plan, and with which exit status
pub record Says (words : List (List ℕ)) (plan : List ℕ) (status : ℕ) (out err : List ℕ) : Type 0 where
  pub answered :
      (r : Request) → ParsesAs words r → ¬ IsLeftOver r
      → (left : Option (List ℕ)) × Shows r (Some status) (Some plan) left (Some []) (Some out) (Some []) (Some err)
  pub unparsed : ((r : Request) → ¬ ParsesAs words r) → IsTurnedAway (Some status) (Some []) (Some err) × (out ≡ [])
  pub over :
      (r : Request) → ParsesAs words r → IsLeftOver r
      → IsLeft (Some status) false (Some []) (Some err) × (out ≡ [])

-- ---- rooms

-- both texts stand in a room, what is told behind what is printed, and its further bytes stay
pub record PutsBoth (out err was now : List ℕ) : Type 0 where
  pub fits : length out + length err ≤ length was
  pub put : now ≡ out ++ (err ++ drop (length out + length err) was)

-- what is answered where both texts are put, or where they don't fit and the room stays
abbrev pub IsPut : ℕ → List ℕ → List ℕ → List ℕ → List ℕ → ℕ → Type 0
IsPut status out err was now answered =
    (PutsBoth out err was now × (answered ≡ status_of (Ended status)))
    ⊎ ((length was < length out + length err) × (answered ≡ status_of NoRoom) × (now ≡ was))

pub record Puts (status : ℕ) (out err was now : List ℕ) (r : PageAnswer) : Type 0 where
  pub put : IsPut status out err was now r.status
  pub printed : r.printed ≡ length out
  pub told : r.told ≡ length err

-- nothing is put, and the room stays
abbrev pub PutsNone : Outcome → List ℕ → List ℕ → PageAnswer → Type 0
PutsNone outcome was now r = (r ≡ record { status = status_of outcome; printed = 0; told = 0 }) × (now ≡ was)

-- ---- answers

-- to words: what the program says; or they leave something to another call; or memory was refused
abbrev pub AnswersWords : List (List ℕ) → List ℕ → List ℕ → List ℕ → PageAnswer → Type 0
AnswersWords words plan was now r =
    ((status : ℕ) × (out : List ℕ) × (err : List ℕ) × Says words plan status out err × Puts status out err was now r)
    ⊎ ((request : Request) × ParsesAs words request × IsLeftOver request × PutsNone LeftOver was now r)
    ⊎ PutsNone NoMemory was now r

-- what the program says of a word that is no text
abbrev pub no_text : List ℕ
no_text = codes "error: invalid UTF-8 was detected in one or more arguments\n"

-- to a row of bytes: that of its words, or none of it is text, or memory was refused
abbrev pub AnswersRow : List ℕ → List ℕ → List ℕ → List ℕ → PageAnswer → Type 0
AnswersRow row plan was now r =
    ((words : List (List ℕ)) × AreWords row words × AnswersWords words plan was now r)
    ⊎ ((¬ IsUtf8 row) × Puts 2 [] no_text was now r)
    ⊎ PutsNone NoMemory was now r
