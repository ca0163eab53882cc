-- Bits of a frame of which nothing is told, in short.
use Rattle.std.proofs.Common.{◌≡◌, ℕ, Bool, true, false, not, ◌&&◌, ◌||◌, Option, Some, None, List, [], ◌∷◌, ◌++◌, map}
use Rattle.std.proofs.Common.{refl, sym, ap, ap₂, ◌∙◌}
use Rattle.std.specs.Prelude.{if◌then◌else◌}
use Rattle.can_node_rules.specs.declared.phase.Phase.{Phase}
use Rattle.can_frame.specs.Frame.{FrameValue}
use Rattle.sja_replay.specs.declared.bit_event.BitEvent.{BitEvent}
use Rattle.sja_replay.specs.declared.short_bit.ShortBit.{ShortBit}
use Rattle.sja_replay.specs.Short.{IsInShort}
use Rattle.sja_replay.specs.Silent.{AreShort}
use Rattle.text_trace.specs.Events.{is_frame, is_start_in}
use Rattle.text_trace.proofs.BitSaid.Shorts.{no_start}
use Rattle.text_frames.specs.declared.started_frame.StartedFrame.{StartedFrame}
use Rattle.text_frames.specs.declared.open_frame.OpenFrame.{OpenFrame}
use Rattle.text_frames.specs.FrameBits.{is_intermission, belongs, started_by, frame_in}
use Rattle.text_frames.specs.FrameStories.{begun, stories_in, of_node, stories_of}
use Rattle.text_frames.specs.Passing.{belongs_by, TakesShort, GoesShort}
use Rattle.text_frames.proofs.FrameLines.Walks.{keeps_on, goes_on}

module _ (h : BitEvent) (q : ShortBit) (s : IsInShort h q) where
  pub belongs_same : (paused : Bool) → belongs paused h ≡ belongs_by paused q
  belongs_same paused =
      ap₂ (λ (p : Phase) (t : Bool). is_intermission p || (not paused && (is_frame p && t))) s.phase s.transmits

  -- no frame starts with it
  no_sof : is_start_in h.before.phase h ≡ false
  no_sof =
      no_start h.before.phase h
      (λ e. (let both = s.no_start (sym s.phase ∙ e) in (s.driven ∙ both.0, s.seen ∙ both.1)))
      (s.phase_stays ∙ sym s.phase)

  pub none_started : started_by h ≡ None
  none_started = ap (λ (b : Bool). if b && h.after.transmits then frame_in h.before.held else None) no_sof

-- ---- such a bit of a frame

-- it goes on with the bit
pub short_keeps : (node : ℕ) (lines : List StartedFrame) (o n : OpenFrame) (q : ShortBit) (number : ℕ) →
    belongs_by o.paused q ≡ true → TakesShort number q o n → GoesShort node number q lines lines (Some o) (Some n)
short_keeps node lines o n q number within takes = λ h s is.
    goes_on node h lines lines (Some o) (Some n)
    (keeps_on node lines o n h (belongs_same h q s o.paused ∙ within) (takes h s is)) (sym (none_started h q s))

-- ---- several where none is under way

pub short_none : (node : ℕ) (hs more : List BitEvent) → AreShort hs →
    stories_of node (hs ++ more) ≡ stories_of node more
short_none node [] more short = refl
short_none node (h ∷ hs) more short =
    ap (λ (o : Option FrameValue). map (of_node node) (begun o h (hs ++ more) ++ stories_in (hs ++ more)))
    (none_started h short.0.0 short.0.1) ∙ short_none node hs more short.1
