-- The line of a trace in which a message was stored (this project's own rule).
use Rattle.std.specs.Prelude.{◌≡◌, ℕ, suc, List, ◌++◌, codes}
use Rattle.can_frame.specs.Frame.{FrameValue}
use Rattle.can_frame.specs.Message.{message}
use Rattle.can_notation.specs.Text.{text}
use Rattle.text_trace.specs.TraceText.{told_line}

-- what is said of a frame that was received and stored, in can-utils' notation
abbrev pub stored_text : FrameValue → List ℕ
stored_text f = codes "received " ++ text f ++ codes ", stored"

-- among its lines the trace has one of this bit and node, in which that is said
pub record HasStoredLine (trace : List ℕ) (bit node : ℕ) (f : FrameValue) : Type 0 where
  pub before : List ℕ
  pub front : List ℕ
  pub back : List ℕ
  pub after : List ℕ
  pub whole : trace ≡ before ++ (told_line bit node (front ++ (stored_text f ++ back)) ++ after)

-- after so many bits a node stored this message: the trace has that line of the last of these bits, of the frame whose
-- message it is
pub record IsToldStored (trace : List ℕ) (node n : ℕ) (m : List ℕ) : Type 0 where
  pub bit : ℕ
  pub count : n ≡ suc bit
  pub frame : FrameValue
  pub bytes : m ≡ message frame
  pub line : HasStoredLine trace bit node frame
