use Rattle.std.proofs.Common.{◌≡◌, ◌++◌, List, length, drop, string_bytes}
use Rattle.text_report.specs.ReportLines.{numbered}
use Rattle.text_wave.specs.Stories.{NodeStory}
use Rattle.text_wave.specs.Wires.{Wire}
use Rattle.text_wave.specs.WaveText.{node_scope}
use Rattle.text_wave.proofs.declarations.put_scopes.Given as goal

-- what was written, and the scopes of the rest, are the whole
abbrev pub invariant-loop-number : goal.invariant-loop-number
invariant-loop-number l =
    (bus : Wire) (stories : List NodeStory) → length stories ≡ length l.nodes →
    string_bytes l.text ++ numbered (node_scope bus) l.number (drop l.number stories)
    ≡ string_bytes l.fn.text ++ numbered (node_scope bus) 0 stories
