use Rattle.std.proofs.Common.{◌≡◌, ◌++◌, ◌+◌, drop, string_bytes}
use Rattle.text_report.specs.ReportLines.{numbered}
use Rattle.text_frames.specs.FramesText.{line_text}
use Rattle.text_frames.specs.FrameStories.{values_of}
use Rattle.text_frames.proofs.frame_list.text_of.Given as goal

-- what was written, and the lines of the rest, are the whole
abbrev pub invariant-loop-frame : goal.invariant-loop-frame
invariant-loop-frame l = record {
  text : string_bytes l.text ++ numbered (line_text l.each) l.number (values_of (drop l.frame-index l.found))
      ≡ numbered (line_text l.each) 1 (values_of l.found);
  number : l.number ≡ l.frame-index + 1;
}
