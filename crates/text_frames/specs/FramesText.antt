-- The list of the frames that the nodes of a run start, line by line (this project's own rule).
use Rattle.std.specs.Prelude.{◌≡◌, ℕ, Bool, List, [], ◌∷◌, ◌++◌, codes, decimal}
use Rattle.can_frame.specs.Frame.{FrameValue}
use Rattle.can_notation.specs.Text.{text}
use Rattle.sja_log.specs.Log.{RunValue}
use Rattle.text_report.specs.ReportLines.{numbered}
use Rattle.text_frames.specs.FieldTexts.{fields_text, last_text}
use Rattle.text_frames.specs.FrameStories.{FrameStory, NodeStory, AreFrames}

-- the frame in the notation of can-utils, and its SOF
abbrev pub head_text : ℕ → FrameValue → ℕ → List ℕ
head_text node f sof = codes " node " ++ decimal node ++ codes " " ++ text f ++ codes ": SOF " ++ decimal sof

-- the bits of its fields, of the data field byte by byte where that is asked for, and how it ended
abbrev pub tail_text : Bool → FrameStory → List ℕ
tail_text each s = fields_text each s.frame.ext s.bits ++ last_text s.last

-- lines are numbered from 1 on
abbrev pub line_text : Bool → ℕ → NodeStory → List ℕ
line_text each number l =
    (codes "frame " ++ decimal number)
    ++ (head_text l.node l.story.frame l.story.sof ++ (tail_text each l.story ++ 10 ∷ []))

-- the text is the list of the frames of a run: a line for each frame that a node starts, in their order
pub record IsFrameList (each : Bool) (log : RunValue) (text : List ℕ) : Type 0 where
  pub found : List NodeStory
  pub are : AreFrames log found
  pub whole : text ≡ numbered (line_text each) 1 found
