-- The verdicts of a journal, beside the frames that its node received (this project's own rule).
use Rattle.std.specs.Prelude.{◌≡◌, ◌≤◌, ◌<◌, ℕ, Option, Some, None, List, [], ◌∷◌, ◌++◌, length}
use Rattle.can_frame.specs.declared.filter.Filter.{Filter}
use Rattle.can_frame.specs.Frame.{FrameValue}
use Rattle.can_frame.specs.Filter.{Passes}
use Rattle.can_frame.specs.Message.{message}
use Rattle.can_levels.specs.declared.level.Level.{Level}
use Rattle.sja_journal.specs.NodeWords.{FinishedPiece, ReceivedFrame, received, IsCut}
use Rattle.sja_journal.specs.declared.up.Up.TheVariants.{Start}
use Rattle.sja_journal.specs.declared.verdict.Verdict.{Verdict}
use Rattle.sja_journal.specs.declared.verdict.Verdict.TheVariants.{Stored as ToStore, Overrun as ToLose}
use Rattle.sja_journal.specs.declared.entry.Entry.{Entry}
use Rattle.sja_journal.specs.declared.entry.Entry.TheVariants.{Bit, Up as Item, Abort, Stored, Overrun, Off}
use Rattle.sja_journal.specs.Parts.{part}
use Rattle.sja_journal.specs.Records.{record_of}
use Rattle.sja_journal.specs.Free.{free_of}
use Rattle.lemmas.specs.Picking.{Picks, EachAfter}
use Rattle.sja_journal.specs.Judged.{Judged, judged_in}

-- the filter in the start of a part
abbrev pub filter_of : List Entry → Option Filter
filter_of (Item (Start config) ∷ es) = Some config.filter
filter_of _ = None

abbrev pub PassesAny : Option Filter → FrameValue → Type 0
PassesAny None f = ⊥
PassesAny (Some filter) f = Passes filter f

-- a frame that was received in this activation, and passes this filter
pub record IsAccepted (a : ℕ) (filter : Option Filter) (h : ReceivedFrame) : Type 0 where
  pub activation : h.activation ≡ a
  pub passes : PassesAny filter h.frame

-- a verdict is on a received frame: on its message, after just the bits up to the last one of its reception
pub record IsOn (h : ReceivedFrame) (v : Judged) : Type 0 where
  pub bits : v.bits ≡ h.bits
  pub bytes : v.bytes ≡ message h.frame

-- the last entry is a bit
pub record EndsInBit (entries : List Entry) : Type 0 where
  pub before : List Entry
  pub driven : Level
  pub seen : Level
  pub whole : entries ≡ before ++ Bit driven seen ∷ []

-- a message is stored exactly where it is at most as long as the bytes that are free
abbrev pub IsFair : List Entry → Entry → Type 0
IsFair before (Stored m) = length m ≤ free_of before
IsFair before (Overrun m) = free_of before < length m
IsFair before (Bit driven seen) = Unit {0}
IsFair before (Item u) = Unit {0}
IsFair before Abort = Unit {0}
IsFair before Off = Unit {0}

-- a verdict stands right after a bit
abbrev pub IsPrompt : List Entry → Entry → Type 0
IsPrompt before (Stored m) = EndsInBit before
IsPrompt before (Overrun m) = EndsInBit before
IsPrompt before (Bit driven seen) = Unit {0}
IsPrompt before (Item u) = Unit {0}
IsPrompt before Abort = Unit {0}
IsPrompt before Off = Unit {0}

abbrev pub IsDue : List Entry → Entry → Type 0
IsDue before e = IsPrompt before e × IsFair before e

-- the verdicts of each part are those of the frames received in it that pass its filter, each right after the last bit
-- of its reception, and a message is stored exactly where it fits
pub record HasVerdicts (j : List Entry) (frames : List ReceivedFrame) : Type 0 where
  pub are : (a : ℕ) → Picks (IsAccepted a (filter_of (part j a))) IsOn frames (judged_in j a)
  pub due : (a : ℕ) → EachAfter IsDue [] (part j a)

-- the journal's record has a cut, and by every cut of it the verdicts are right
pub record IsLawful (j : List Entry) : Type 0 where
  pub found : List FinishedPiece
  pub cut : IsCut (record_of j) found
  pub verdicts : (others : List FinishedPiece) → IsCut (record_of j) others → HasVerdicts j (received others)

-- the entry of a verdict
abbrev pub entry_of : Verdict → List ℕ → Entry
entry_of ToStore m = Stored m
entry_of ToLose m = Overrun m
