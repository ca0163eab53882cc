-- Bits of a frame that several nodes receive, having read just the same: one reader takes each level for all of them,
-- and a node goes over to it behind them (this project's own rule).
use Rattle.std.specs.Prelude.{◌≡◌, ◌<◌, ◌+◌, ◌^◌, Bool, true, false, Some, List}
use Rattle.can_levels.specs.declared.level.Level.{Level}
use Rattle.can_levels.specs.declared.level.Level.TheVariants.{Recessive}
use Rattle.can_levels.specs.declared.segment.Segment.{Segment}
use Rattle.can_bits.specs.declared.shift.Shift.{Shift}
use Rattle.can_levels.specs.Segments.{IsNext}
use Rattle.can_bits.specs.Sending.{TakesInside}
use Rattle.can_bits.specs.Shifts.{StandsFor}
use Rattle.can_levels.specs.Streaming.{IsReadable}
use Rattle.can_node.specs.declared.node.Node.{Node}
use Rattle.can_node_rules.specs.declared.phase.Phase.TheVariants.{Frame}
use Rattle.can_node_rules.specs.declared.role.Role.TheVariants.{Receiver}
use Rattle.can_node.specs.declared.stage.Stage.TheVariants.{InFrame}
use Rattle.can_node.specs.Stands.{shown_counters}
use Rattle.can_node.specs.Together.{kept_level, reading_as}
use Rattle.sja_journal.specs.declared.entry.Entry.{Entry}
use Rattle.sja_journal.specs.declared.entry.Entry.TheVariants.{Bit}
use Rattle.sja_replay.specs.declared.replay.Replay.{Replay}
use Rattle.sja_replay.specs.declared.short_bit.ShortBit.{ShortBit}
use Rattle.sja_replay.specs.Replaying.{IsAt}
use Rattle.sja_replay.specs.Short.{PassesBit}

-- the node receives a frame and drives recessive, and no abort came
pub record Receives (r : Replay) : Type 0 where
  pub in_frame : r.node.stage ≡ InFrame
  pub role : r.node.context.role ≡ Receiver
  pub drives : kept_level r.node ≡ Recessive
  pub unmarked : r.aborted ≡ false

-- the same replay, whose node has this reader
abbrev pub reading : Shift → Replay → Replay
reading reader r = record r { node = reading_as r.node reader }

-- a bit comes next in which the node drove recessive and saw this level, and 32 bits have a place for its number
pub record Hears (r : Replay) (level : Level) : Type 0 where
  pub ahead : r.ahead ≡ Some (Bit Recessive level)
  pub few : r.bits + 1 < 2 ^ 32

-- a reader says to which segment the next level belongs, whatever levels it may have been given
abbrev pub SaysSegment : Shift → Segment → Type 0
SaysSegment reader segment =
    (l : List Level) → StandsFor reader l → IsReadable l → (stuff_bit : Bool) × IsNext l segment stuff_bit

-- that bit in short
abbrev pub heard : Level → Segment → Node → ShortBit
heard level segment node = record {
  driven = Recessive;
  seen = level;
  phase = Frame;
  segment = Some segment;
  transmits = false;
  counters = shown_counters node;
  flag = node.context.flag;
}

-- the replay went on past that bit, and its node is what it was: with the reader that took the level it has passed it
pub record HearsOn (old new : Replay) : Type 0 where
  pub node : new.node ≡ old.node
  pub aborted : new.aborted ≡ old.aborted
  pub passes : (before after : Shift) (level : Level) (segment next : Segment) → Hears old level → Receives old →
      TakesInside before level after → SaysSegment before segment → SaysSegment after next → (j : List Entry) →
      IsAt (reading before old) j →
      PassesBit (reading before old) (reading after new) j (heard level segment old.node)
