-- What the driver of each node could have received, as text (this project's own rule; sources as named).
use Rattle.std.specs.Prelude.{◌≡◌, ℕ, zero, suc, Bool, Option, Some, None, List, [], ◌++◌, slice_get}
use Rattle.can_frame.specs.Frame.{FrameValue}
use Rattle.can_node_rules.specs.declared.counters.Counters.{Counters}
use Rattle.can_notation.specs.Text.{text}
use Rattle.lemmas.specs.Related.{EachRelated}
use Rattle.sja_log.specs.Log.{NodeValue, RunValue}
use Rattle.sja_replay.specs.declared.reception.Reception.{Reception}
use Rattle.sja_replay.specs.declared.reception.Reception.TheVariants.{Stored, Overrun, Stopped}
use Rattle.sja_replay.specs.declared.bit_event.BitEvent.{BitEvent}
use Rattle.sja_replay.specs.Happened.{Happened}
use Rattle.text_report.specs.ReportLines.{numbered}
use Rattle.text_trace.specs.TraceText.{line_where, counters_left}
use Rattle.text_candump.specs.declared.error_frame.ErrorFrame.{ErrorFrame}
use Rattle.text_candump.specs.ErrorFrames.{error_text}
use Rattle.text_candump.specs.BitErrors.{bit_error, restart_error}
use Rattle.text_candump.specs.Lines.{frame_line}

-- ---- a bit of a node

-- the frame that is valid for the node with the bit and that was stored (SJA1000 data sheet, 6.4.14): one that the
-- acceptance filter stopped or that was overrun comes to no driver. A node's own frame is received under self reception
-- alone (6.4.4)
abbrev pub stored_frame : Option FrameValue → Option Reception → Option FrameValue
stored_frame None reception = None
stored_frame (Some f) None = None
stored_frame (Some f) (Some Stored) = Some f
stored_frame (Some f) (Some (Overrun length free)) = None
stored_frame (Some f) (Some Stopped) = None

-- in the notation of can-utils; no line where there is none
abbrev pub stored_line : ℕ → ℕ → Option FrameValue → List ℕ
stored_line bit node None = []
stored_line bit node (Some f) = frame_line bit node (text f)

abbrev pub error_line : ℕ → ℕ → Option ErrorFrame → List ℕ
error_line bit node None = []
error_line bit node (Some e) = frame_line bit node (error_text e)

-- a restart right before the bit, where error frames are asked for
abbrev pub restart_line : Bool → ℕ → ℕ → Counters → Counters → List ℕ
restart_line errors bit node left before = line_where errors (error_line bit node (restart_error left before))

-- the lines of what a bit brought, which the bits before it came to with these counters, with error frames or without.
-- The driver takes what is received first
abbrev pub bit_lines : Bool → ℕ → ℕ → Counters → BitEvent → List ℕ
bit_lines errors bit node left h =
    restart_line errors bit node left h.before.counters
    ++ stored_line bit node (stored_frame h.events.received h.reception)
    ++ line_where errors (error_line bit node (bit_error h))

abbrev pub node_lines : Bool → ℕ → ℕ → Counters → Option BitEvent → List ℕ
node_lines errors bit node left None = []
node_lines errors bit node left (Some h) = bit_lines errors bit node left h

-- ---- all nodes, by what their bits brought

-- of bit b
abbrev pub story_lines : Bool → ℕ → ℕ → List BitEvent → List ℕ
story_lines errors b node told = node_lines errors b node (counters_left b told) (slice_get told b)

abbrev pub all_lines : Bool → ℕ → List (List BitEvent) → List ℕ
all_lines errors b stories = numbered (story_lines errors b) 0 stories

-- of the bits before bit n, in order
abbrev pub lines_to : Bool → ℕ → List (List BitEvent) → List ℕ
lines_to errors zero stories = []
lines_to errors (suc b) stories = lines_to errors b stories ++ all_lines errors b stories

-- ---- of a log

-- what the bits of a node's journal brought
abbrev pub HasStory : NodeValue → List BitEvent → Type 0
HasStory n told = Happened [] n.journal told

-- the text is what the drivers of a run could have received, with error frames or without
pub record IsCandump (log : RunValue) (errors : Bool) (text : List ℕ) : Type 0 where
  pub stories : List (List BitEvent)
  pub have : EachRelated HasStory log.nodes stories
  pub whole : text ≡ lines_to errors log.bits stories
