use Rattle.std.proofs.Common.{◌≡◌, ◌++◌, drop, string_bytes}
use Rattle.text_report.specs.ReportLines.{lines_text, message_lines}
use Rattle.text_report.proofs.lines.put_messages.Given as goal

-- what was written, and the lines of the rest, are the whole
abbrev pub invariant-loop-message : goal.invariant-loop-message
invariant-loop-message l =
    string_bytes l.text ++ lines_text (message_lines l.word (drop l.message-index l.messages))
    ≡ string_bytes l.fn.text ++ lines_text (message_lines l.word l.messages)
