-- What a node takes between two bits, by a cut of its record (this project's own rule).
use Rattle.std.specs.Prelude.{◌≡◌, ◌≢◌, ◌+◌, ◌≤◌, Bool, true, false, None, List, [], ◌∷◌}
use Rattle.can_node_rules.specs.declared.abort_outcome.AbortOutcome.TheVariants.{Unchanged}
use Rattle.can_node_rules.specs.declared.phase.Phase.TheVariants.{Reset}
use Rattle.can_node_rules.specs.Pieces.Place.{AtReset}
use Rattle.can_node_rules.specs.Effects.{is_in_progress}
use Rattle.can_node_rules.specs.NextBit.{now_in, phase_in}
use Rattle.can_node_rules.specs.Outcomes.{abort_of}
use Rattle.lemmas.specs.Gathering.{total}
use Rattle.sja_journal.specs.NodeWords.{NodeEntry, FinishedPiece, IsCut}
use Rattle.sja_journal.specs.declared.up.Up.TheVariants.{Start, Credit, Send, Stop}
use Rattle.sja_journal.specs.declared.entry.Entry.{Entry}
use Rattle.sja_journal.specs.declared.entry.Entry.TheVariants.{Bit, Up as Item, Abort, Stored, Overrun, Off}
use Rattle.sja_journal.specs.Free.{credit_in, bytes_in}
use Rattle.sja_journal.specs.Parts.{part}
use Rattle.sja_journal.specs.Places.{place_of}
use Rattle.sja_journal.specs.Records.{record_of}

-- the part of the activation that was begun last
abbrev pub last_part : List Entry → List Entry
last_part j = part j (place_of j).activation

-- a request is for a node that isn't in reset and holds none; in an activation that went bus-off it isn't told
abbrev pub TakesRequest : Bool → {entries : List NodeEntry} {found : List FinishedPiece} → IsCut entries found → Type 0
TakesRequest true cut = Unit {0}
TakesRequest false cut = (cut.place ≢ AtReset) × ((now_in cut).held ≡ None)

-- an entry that is no bit may come after this journal, whose record has this cut: a start in reset alone, a credit of
-- no bytes that aren't stored, and an abort only where it changes the node. Verdicts and bus-off belong to the bit
-- before them
abbrev pub Takes : (before : List Entry) {found : List FinishedPiece} → IsCut (record_of before) found → Entry → Type 0
Takes before cut (Item (Start config)) = phase_in cut ≡ Reset
Takes before cut (Item (Credit n)) = total credit_in (last_part before) + n ≤ total bytes_in (last_part before)
Takes before cut (Item (Send request)) = TakesRequest (place_of before).off cut
Takes before cut (Item Stop) = Unit {0}
Takes before cut Abort =
    abort_of (is_in_progress (now_in cut) cut.place) (now_in cut).held (now_in cut).aborted ≢ Unchanged
Takes before cut (Bit driven seen) = ⊥
Takes before cut (Stored m) = ⊥
Takes before cut (Overrun m) = ⊥
Takes before cut Off = ⊥

-- the same by a cut of the journal's record
pub record IsTaken (before : List Entry) (e : Entry) : Type 0 where
  pub found : List FinishedPiece
  pub cut : IsCut (record_of before) found
  pub takes : Takes before cut e

-- whether the last entry is an abort
abbrev pub is_abort : Entry → Bool
is_abort Abort = true
is_abort (Bit driven seen) = false
is_abort (Item u) = false
is_abort (Stored m) = false
is_abort (Overrun m) = false
is_abort Off = false

abbrev pub ends_in_abort : List Entry → Bool
ends_in_abort [] = false
ends_in_abort (e ∷ []) = is_abort e
ends_in_abort (e ∷ f ∷ es) = ends_in_abort (f ∷ es)
