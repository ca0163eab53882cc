-- What one bit brought to a node, by the cut of its record (this project's own rule).
use Rattle.std.specs.Prelude.{◌≡◌, not, List, [], ◌∷◌, ◌++◌}
use Rattle.can_levels.specs.declared.level.Level.{Level}
use Rattle.can_node_rules.specs.Context.{is_transmitter}
use Rattle.can_node_rules.specs.Events.{Step, events_of}
use Rattle.can_node_rules.specs.NextBit.{now_in, open_bits, DrivesIn}
use Rattle.can_node_rules.specs.Outcomes.{closed_by, entries_of}
use Rattle.sja_journal.specs.NodeWords.{NodeBit, NodeTook, FinishedPiece, IsCut, none_yet, counted}
use Rattle.sja_journal.specs.declared.entry.Entry.{Entry}
use Rattle.sja_replay.specs.Taking.{ends_in_abort}
use Rattle.sja_journal.specs.Places.{place_of}
use Rattle.sja_journal.specs.Records.{record_of}
use Rattle.sja_replay.specs.declared.bit_event.BitEvent.{BitEvent}
use Rattle.sja_replay.specs.Viewing.{IsView}

-- the levels of a bit
abbrev pub bit_of : Level → Level → NodeBit
bit_of driven seen = record { driven = driven; seen = seen }

-- after this journal comes a bit with these levels, and this is what it brought. By a cut of the journal's record: the
-- node drove what it drives there, the events are those of the bit, and before the bit the node showed what it shows.
-- The record with the bit, and with bus-off where the node went bus-off in it, has a cut too, which is the one before
-- with the piece that the bit finished, if it finished one; by it the node shows what it shows after the bit, and has
-- the role that the bit told
pub record Brings (j : List Entry) (driven seen : Level) (h : BitEvent) : Type 0 where
  pub found : List FinishedPiece
  pub cut : IsCut (record_of j) found
  pub step : Step
  pub drives : DrivesIn cut driven
  pub bit : h.bit ≡ (place_of j).bits
  pub levels : (h.driven ≡ driven) × (h.seen ≡ seen)
  pub aborted : h.aborted ≡ ends_in_abort j
  pub before : IsView cut h.before
  pub events : h.events ≡ events_of step (now_in cut) cut.place (open_bits cut) (bit_of driven seen)
  pub with_bit : IsCut (record_of j ++ entries_of (bit_of driven seen) h.events)
      (found ++ closed_by (counted none_yet (record_of j ++ NodeTook (bit_of driven seen) ∷ [])) step)
  pub role : h.events.receiving ≡ not (is_transmitter (now_in with_bit).role)
  pub after : IsView with_bit h.after
