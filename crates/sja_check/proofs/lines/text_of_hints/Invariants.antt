use Rattle.std.proofs.Common.{◌≤◌, string_bytes}
use Rattle.sja_check.specs.Lines.{AreLines}
use Rattle.sja_check.proofs.lines.text_of_hints.Given as goal

-- the lines so far
abbrev pub invariant-loop-hint : goal.invariant-loop-hint
invariant-loop-hint l = (l.count ≤ 21) × AreLines l.count (string_bytes l.text)
