-- The frames of a node, one bit after another.
use Rattle.std.specs.Prelude.{◌≡◌, ℕ, false, if◌then◌else◌, Option, Some, None, List, [], ◌∷◌, ◌++◌}
use Rattle.can_frame.specs.Frame.{FrameValue}
use Rattle.lemmas.specs.Related.{EachRelated}
use Rattle.sja_log.specs.Log.{NodeValue}
use Rattle.text_report.specs.ReportLines.{numbered}
use Rattle.sja_journal.specs.declared.entry.Entry.{Entry}
use Rattle.sja_replay.specs.Happened.{Happened}
use Rattle.sja_replay.specs.declared.bit_event.BitEvent.{BitEvent}
use Rattle.text_frames.specs.declared.open_frame.OpenFrame.{OpenFrame}
use Rattle.text_frames.specs.declared.started_frame.StartedFrame.{StartedFrame}
use Rattle.text_frames.specs.FrameBits.{part_of, starts, one_level, run_on, bit_after, bits_after, is_intermission}
use Rattle.text_frames.specs.FrameEnds.{ends_in, last_of}
use Rattle.text_frames.specs.FrameStories.{NodeStory, HasTold, stories_of, values_of}
use Rattle.text_trace.specs.Events.{is_frame}

-- a frame under way, where these bits of it are to come
abbrev pub story_with : ℕ → OpenFrame → List BitEvent → NodeStory
story_with node o part = record {
  node = node;
  story = record {
    frame = o.frame;
    sof = o.sof;
    bits = o.bits.items ++ bits_after o.run part;
    last = last_of o.last part;
  };
}

-- the same, if there is a frame
abbrev pub story_if : ℕ → Option OpenFrame → List BitEvent → List NodeStory
story_if node None part = []
story_if node (Some o) part = story_with node o part ∷ []

-- where all of these bits come next
abbrev pub part_for : Option OpenFrame → List BitEvent → List BitEvent
part_for None hs = []
part_for (Some o) hs = part_of o.paused hs

abbrev pub story_before : ℕ → Option OpenFrame → List BitEvent → List NodeStory
story_before node current hs = story_if node current (part_for current hs)

-- the same after bit h, with which a frame may start anew
abbrev pub story_after : ℕ → BitEvent → Option OpenFrame → List BitEvent → List NodeStory
story_after node h current hs = if starts h then story_if node current [] else story_before node current hs

-- ---- a frame

-- bit h started this frame
pub record IsOpened (f : FrameValue) (h : BitEvent) (o : OpenFrame) : Type 0 where
  pub sof : o.sof ≡ h.bit
  pub frame : o.frame ≡ f
  pub bits : o.bits.items ≡ []
  pub run : o.run ≡ one_level h.seen
  pub last : o.last ≡ ends_in h
  pub paused : o.paused ≡ false

-- it has bit h too
pub record TakesIn (old new : OpenFrame) (h : BitEvent) : Type 0 where
  pub sof : new.sof ≡ old.sof
  pub frame : new.frame ≡ old.frame
  pub bits : new.bits.items ≡ old.bits.items ++ bit_after old.run h ∷ []
  pub run : new.run ≡ run_on old.run h.seen
  pub last : new.last ≡ (if is_frame h.before.phase then ends_in h else old.last)
  pub paused : new.paused ≡ is_intermission h.before.phase

-- ---- bit h of a node: the frames that were found before, with those of what comes from h on, are the frames that are
-- found after it, with those of what comes then

-- of the frame that is under way
abbrev pub Keeps : ℕ → BitEvent → List StartedFrame → List StartedFrame → Option OpenFrame → Option OpenFrame → Type 0
Keeps node h old new current next =
    (more : List BitEvent) →
    values_of old ++ story_before node current (h ∷ more) ≡ values_of new ++ story_after node h next more

-- of all frames
abbrev pub stories_from : ℕ → Option OpenFrame → List BitEvent → List NodeStory
stories_from node current hs = story_before node current hs ++ stories_of node hs

abbrev pub Goes : ℕ → BitEvent → List StartedFrame → List StartedFrame → Option OpenFrame → Option OpenFrame → Type 0
Goes node h old new current next =
    (more : List BitEvent) →
    values_of old ++ stories_from node current (h ∷ more) ≡ values_of new ++ stories_from node next more

-- ---- a node

-- its frames came behind others
pub record PutsFrames (node : ℕ) (journal : List Entry) (old new : List StartedFrame) : Type 0 where
  pub told : List BitEvent
  pub have : Happened [] journal told
  pub are : values_of new ≡ values_of old ++ stories_of node told

-- ---- all nodes

-- these are their frames, node by node
pub record HaveFrames (nodes : List NodeValue) (found : List StartedFrame) : Type 0 where
  pub told : List (List BitEvent)
  pub have : EachRelated HasTold nodes told
  pub are : values_of found ≡ numbered stories_of 0 told
