-- What a port is told of a bit (this project's own rule).
use Rattle.std.specs.Prelude.{◌≡◌, ◌&&◌, not, ℕ, Bool, true, false, Option, Some, None, List, [], ◌∷◌, ◌++◌}
use Rattle.can_levels.specs.declared.level.Level.{Level}
use Rattle.can_node_rules.specs.Context.{is_transmitter, is_held}
use Rattle.can_node_rules.specs.Events.{Step, events_of}
use Rattle.can_node_rules.specs.NextBit.{now_in, open_bits, phase_in}
use Rattle.can_node_rules.specs.Outcomes.{closed_by, nothing}
use Rattle.sja_journal.specs.NodeWords.{NodeTook, FinishedPiece, IsCut, none_yet, counted}
use Rattle.sja_journal.specs.declared.verdict.Verdict.{Verdict}
use Rattle.sja_journal.specs.declared.verdict.Verdict.TheVariants.{Stored, Overrun}
use Rattle.sja_journal.specs.declared.entry.Entry.{Entry}
use Rattle.sja_journal.specs.Places.{place_of}
use Rattle.sja_journal.specs.Records.{record_of}
use Rattle.sja_regs.specs.declared.bus_turn.BusTurn.{BusTurn}
use Rattle.sja_journal.specs.BitEntries.{HasBit}

-- the turn says what stands at the end of this journal's record: the activation, the error counters, whether bus-off
-- stands, the phase and the role
pub record Says (j : List Entry) (turn : BusTurn) : Type 0 where
  pub found : List FinishedPiece
  pub cut : IsCut (record_of j) found
  pub activation : turn.activation ≡ (place_of j).activation
  pub txerr : turn.txerr ≡ (now_in cut).tec
  pub rxerr : turn.rxerr ≡ (now_in cut).rec
  pub off : turn.off ≡ (now_in cut).off
  pub phase : turn.phase ≡ phase_in cut
  pub receiving : turn.events.receiving ≡ not (is_transmitter (now_in cut).role)

-- whether this is the verdict that the message found no room
abbrev pub is_overrun : Option (Verdict × List ℕ) → Bool
is_overrun None = false
is_overrun (Some (Stored, m)) = false
is_overrun (Some (Overrun, m)) = true

-- the turn of a bit. `opened` is the journal as items were taken and the abort was applied, which changed the node or
-- not; k is the journal after the bit. The turn has the events of the bit by the cut, the state after it, whether the
-- message received was an overrun, and whether the abort left no request
pub record IsTurn (changed : Bool) (opened : List Entry) (driven seen : Level) (k : List Entry)
    (b : HasBit opened driven seen k) (turn : BusTurn) : Type 0 where
  pub found : List FinishedPiece
  pub cut : IsCut (record_of opened) found
  pub step : Step
  pub events : turn.events
      ≡ events_of step (now_in cut) cut.place (open_bits cut) (record { driven = driven; seen = seen })
  pub after : IsCut (record_of k) (found ++ closed_by
      (counted none_yet (record_of opened ++ NodeTook (record { driven = driven; seen = seen }) ∷ [])) step)
  pub says : Says k turn
  pub off : turn.events.went_off ≡ b.off
  pub overrun : turn.overrun ≡ is_overrun b.verdict
  pub aborted : turn.aborted ≡ (changed && not (is_held (now_in cut).held))

-- the turn says what stands there, and nothing else
pub record SaysAlone (j : List Entry) (turn : BusTurn) : Type 0 where
  pub says : Says j turn
  pub events : turn.events ≡ nothing turn.events.receiving
  pub aborted : turn.aborted ≡ false
  pub overrun : turn.overrun ≡ false

-- the port wasn't told: nothing was left untold before the bit, nothing was taken and no abort changed the node, and
-- the node says after the bit what it said before it
pub record IsPassedOver (was_kept : Type 0) (untold : Bool) (j opened : List Entry) (turn : BusTurn) : Type 0 where
  pub kept : was_kept
  pub told : untold ≡ false
  pub same : opened ≡ j
  pub alone : SaysAlone j turn

-- whether something is untold now: it was before, or items were taken
pub record IsUntold (before now : Bool) (j k : List Entry) : Type 0 where
  pub stays : before ≡ true → now ≡ true
  pub takes : (k ≡ j → ⊥) → now ≡ true
  pub none : before ≡ false → k ≡ j → now ≡ false
