use Rattle.std.proofs.Common.{◌≡◌, ◌++◌, drop, string_bytes}
use Rattle.text_report.specs.ReportLines.{numbered}
use Rattle.text_wave.specs.Inside.Changes.{node_changes}
use Rattle.text_wave.proofs.changes.put_all_changes.Given as goal

-- what was written, and the lines of the rest, are the whole
abbrev pub invariant-loop-probe : goal.invariant-loop-probe
invariant-loop-probe l = record {
  text : string_bytes l.text ++ numbered (node_changes l.before l.now) l.number (drop l.probe-index l.probes)
      ≡ string_bytes l.fn.text ++ numbered (node_changes l.before l.now) 0 l.probes;
  number : l.number ≡ l.probe-index;
}
