-- What an abort that was ordered changes (SJA1000 data sheet, 6.4.4: abort transmission).
use Rattle.std.specs.Prelude.{◌≡◌, ◌⊎◌, Bool, true, false, List}
use Rattle.can_node_rules.specs.declared.abort_outcome.AbortOutcome.{AbortOutcome}
use Rattle.can_node_rules.specs.declared.abort_outcome.AbortOutcome.TheVariants.{Unchanged, Marked, Dropped}
use Rattle.can_node_rules.specs.Effects.{is_in_progress}
use Rattle.can_node_rules.specs.NextBit.{now_in}
use Rattle.can_node_rules.specs.Outcomes.{abort_of}
use Rattle.sja_journal.specs.NodeWords.{NodeEntry, FinishedPiece, IsCut}
use Rattle.sja_journal.specs.declared.entry.Entry.{Entry}
use Rattle.sja_journal.specs.Places.{place_of}
use Rattle.sja_journal.specs.Records.{record_of}
use Rattle.sja_journal.specs.Opening.{IsOpen}

-- what an abort at the end of a record does, by its cut
abbrev pub abort_in : {entries : List NodeEntry} {found : List FinishedPiece} → IsCut entries found → AbortOutcome
abort_in cut = abort_of (is_in_progress (now_in cut) cut.place) (now_in cut).held (now_in cut).aborted

-- whether it changes the node
abbrev pub changes : AbortOutcome → Bool
changes Unchanged = false
changes Marked = true
changes Dropped = true

-- at the end of this journal an abort was applied: in an open activation that didn't go bus-off it changed the node
-- exactly where each cut of its record says so, and otherwise it changed nothing
pub record IsApplied (j : List Entry) (changed : Bool) : Type 0 where
  pub runs : IsOpen j → (place_of j).off ≡ false →
      (found : List FinishedPiece) (cut : IsCut (record_of j) found) → changed ≡ changes (abort_in cut)
  pub rests : (IsOpen j → ⊥) ⊎ ((place_of j).off ≡ true) → changed ≡ false
