use Rattle.std.proofs.Common.{◌≡◌, ◌++◌, ℕ, List, drop}
use Rattle.sja_run.specs.Names.{shown_behind, shown_name}
use Rattle.sja_run.specs.Inside.FileTexts.{Wrote}
use Rattle.sja_run.proofs.name_lines.put_escaped.Given as goal

-- what those so far are shown as is written
abbrev pub invariant-loop-place : goal.invariant-loop-place
invariant-loop-place g l =
    (done : List ℕ) × (done ++ shown_behind l.before (drop l.place l.bytes) ≡ shown_name l.bytes)
    × Wrote l.fn.writer.failed l.writer.failed (g.W.Write.contents l.fn.writer.writer)
    (g.W.Write.contents l.writer.writer) done
