use Rattle.std.proofs.Common.{◌≡◌, ◌++◌, drop, string_bytes}
use Rattle.text_report.specs.ReportLines.{lines_text, numbered, node_lines}
use Rattle.text_report.proofs.report_text.put_nodes.Given as goal

-- what was written, and the lines of the rest, are the whole
abbrev pub invariant-loop-node : goal.invariant-loop-node
invariant-loop-node l = record {
  text : string_bytes l.text ++ lines_text (numbered node_lines l.number (drop l.node-index l.nodes))
      ≡ string_bytes l.fn.text ++ lines_text (numbered node_lines 0 l.nodes);
  number : l.number ≡ l.node-index;
}
