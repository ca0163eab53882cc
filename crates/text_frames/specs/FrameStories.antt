-- The frames that a node starts, in order, by what its bits brought (this project's own rule).
use Rattle.std.specs.Prelude.{ℕ, false, Option, Some, None, List, [], ◌∷◌, ◌++◌, map}
use Rattle.std.specs.declared.cmp.Ordering.{Ordering}
use Rattle.std.specs.List.Sorted.{IsPermutation, IsSorted}
use Rattle.std.specs.Ordering.{nat_cmp, ordering_then}
use Rattle.can_frame.specs.Frame.{FrameValue}
use Rattle.lemmas.specs.Related.{EachRelated}
use Rattle.sja_log.specs.Log.{NodeValue, RunValue}
use Rattle.sja_replay.specs.declared.bit_event.BitEvent.{BitEvent}
use Rattle.sja_replay.specs.Happened.{Happened}
use Rattle.text_report.specs.ReportLines.{numbered}
use Rattle.text_frames.specs.declared.frame_bit.FrameBit.{FrameBit}
use Rattle.text_frames.specs.declared.last_bit.LastBit.{LastBit}
use Rattle.text_frames.specs.declared.started_frame.StartedFrame.{StartedFrame}
use Rattle.text_frames.specs.FrameBits.{started_by, part_of, one_level, bits_after}
use Rattle.text_frames.specs.FrameEnds.{ends_in, last_of}

-- a frame that a node started: the number of the bit that is its SOF, the bits after it, and how it ended
pub record FrameStory : Type 0 where
  pub frame : FrameValue
  pub sof : ℕ
  pub bits : List FrameBit
  pub last : LastBit

-- the frame that bit h starts, where hs come after it
abbrev pub begun : Option FrameValue → BitEvent → List BitEvent → List FrameStory
begun None h hs = []
begun (Some f) h hs =
    record {
      frame = f;
      sof = h.bit;
      bits = bits_after (one_level h.seen) (part_of false hs);
      last = last_of (ends_in h) (part_of false hs);
    }
    ∷ []

abbrev pub stories_in : List BitEvent → List FrameStory
stories_in [] = []
stories_in (h ∷ hs) = begun (started_by h) h hs ++ stories_in hs

-- ---- of a log

-- a frame with the node that started it, counted from 0
pub record NodeStory : Type 0 where
  pub node : ℕ
  pub story : FrameStory

abbrev pub of_node : ℕ → FrameStory → NodeStory
of_node node s = record { node = node; story = s }

-- what a frame is seen as
abbrev pub value_of : StartedFrame → NodeStory
value_of f = record {
  node = f.node;
  story = record { frame = f.frame; sof = f.sof; bits = f.bits.items; last = f.last };
}

abbrev pub values_of : List StartedFrame → List NodeStory
values_of found = map value_of found

-- the frames of a node, by what its bits brought
abbrev pub stories_of : ℕ → List BitEvent → List NodeStory
stories_of node hs = map (of_node node) (stories_in hs)

-- what the bits of a node's journal brought
abbrev pub HasTold : NodeValue → List BitEvent → Type 0
HasTold n hs = Happened [] n.journal hs

-- the order of frames: one that starts earlier comes first, and of frames that start with one bit that of the node with
-- the lower number
abbrev pub order : NodeStory → NodeStory → Ordering
order a b = ordering_then (nat_cmp a.story.sof b.story.sof) (nat_cmp a.node b.node)

-- these are the frames that the nodes of a run start, in this order
pub record AreFrames (log : RunValue) (found : List NodeStory) : Type 0 where
  pub told : List (List BitEvent)
  pub have : EachRelated HasTold log.nodes told
  pub all : IsPermutation (numbered stories_of 0 told) found
  pub ordered : IsSorted order found
