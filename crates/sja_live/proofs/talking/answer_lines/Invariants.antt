use Rattle.std.specs.Prelude.{Option}
use Rattle.sja_live.specs.Inside.Standing.{IsLive}
use Rattle.sja_live.specs.Inside.LiveProgress.{Goes, IsBegun}
use Rattle.sja_live.proofs.talking.answer_lines.Given as goal
use Rattle.sja_plan_reading.specs.Words.{Text}

-- the lines so far were answered
abbrev pub invariant-loop : goal.invariant-loop
invariant-loop g l = record {
  goes : (before : Option Text) → IsBegun before (g.R.Read.remaining l.fn.input) l.fn.session →
      Goes before (g.R.Read.remaining l.input) (g.W.Write.contents l.fn.out) (g.W.Write.contents l.out) l.session;
  live : IsLive l.session;
}
