-- Bits of which nothing is told, taken in short.
use Rattle.std.specs.Prelude.{◌≡◌, ◌==◌, ◌&&◌, ◌||◌, not, ℕ, Bool, if◌then◌else◌, Option, None, List, ◌++◌}
use Rattle.can_levels.specs.declared.segment.Segment.{Segment}
use Rattle.can_node_rules.specs.declared.phase.Phase.{Phase}
use Rattle.sja_journal.specs.declared.entry.Entry.{Entry}
use Rattle.sja_replay.specs.declared.bit_event.BitEvent.{BitEvent}
use Rattle.sja_replay.specs.declared.replay.Replay.{Replay}
use Rattle.sja_replay.specs.declared.short_bit.ShortBit.{ShortBit}
use Rattle.sja_replay.specs.Replaying.{IsAt, GoesOn}
use Rattle.sja_replay.specs.Short.{IsInShort}
use Rattle.text_frames.specs.declared.field.Field.{Field}
use Rattle.text_frames.specs.declared.field.Field.TheVariants.{Intermission}
use Rattle.text_frames.specs.declared.frame_bit.FrameBit.{FrameBit}
use Rattle.text_frames.specs.declared.started_frame.StartedFrame.{StartedFrame}
use Rattle.text_frames.specs.declared.last_bit.LastBit.{LastBit}
use Rattle.text_frames.specs.declared.open_frame.OpenFrame.{OpenFrame}
use Rattle.text_frames.specs.declared.run.Run.{Run}
use Rattle.text_frames.specs.Fields.{field_if, is_stuffed}
use Rattle.text_frames.specs.FrameBits.{is_intermission}
use Rattle.text_frames.specs.FrameEnds.{ending_of}
use Rattle.text_frames.specs.FrameStories.{values_of}
use Rattle.text_frames.specs.Inside.Walking.{TakesIn, Goes, stories_from}
use Rattle.text_trace.specs.Events.{is_frame}

-- ---- what is said of such a bit, by what is known of it in short

abbrev pub field_by : Phase → Option Segment → Field
field_by phase segment = if is_intermission phase then Intermission else field_if segment

abbrev pub bit_by : Run → ℕ → Field → FrameBit
bit_by r number field = record { bit = number; field = field; stuff = is_stuffed field && (r.count == 5) }

abbrev pub last_by : ℕ → Phase → LastBit
last_by number phase = record { bit = number; ending = ending_of None None (is_frame phase) }

abbrev pub belongs_by : Bool → ShortBit → Bool
belongs_by paused q = is_intermission q.phase || (not paused && (is_frame q.phase && q.transmits))

-- ---- it may have been any bit that has this number and is this in short

abbrev pub TakesShort : ℕ → ShortBit → OpenFrame → OpenFrame → Type 0
TakesShort number q old new = (h : BitEvent) → IsInShort h q → h.bit ≡ number → TakesIn old new h

abbrev pub GoesShort :
    ℕ → ℕ → ShortBit → List StartedFrame → List StartedFrame → Option OpenFrame → Option OpenFrame → Type 0
GoesShort node number q old new current next =
    (h : BitEvent) → IsInShort h q → h.bit ≡ number → Goes node h old new current next

-- ---- several of them

-- the replay went on past some bits. The frames that were found before, with those of what comes from them on, are the
-- frames that are found after them, with those of what comes then
pub record Walked (node : ℕ) (lines news : List StartedFrame) (current next : Option OpenFrame) (old new : Replay)
    (before : List Entry) : Type 0 where
  pub told : List BitEvent
  pub goes : GoesOn old new before told
  pub are : (more : List BitEvent) →
      values_of lines ++ stories_from node current (told ++ more) ≡ values_of news ++ stories_from node next more

abbrev pub Walks :
    ℕ → List StartedFrame → List StartedFrame → Option OpenFrame → Option OpenFrame → Replay → Replay → Type 0
Walks node lines news current next old new =
    (before : List Entry) → IsAt old before → Walked node lines news current next old new before
