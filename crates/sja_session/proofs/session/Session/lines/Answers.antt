use Rattle.std.proofs.Common.{◌∙◌, arith}
use Rattle.sja_session.proofs.InterruptLines.{one_more, all_told, more_few, few_of}
use Rattle.sja_session.proofs.WatchedBits.QuietBits.{line_still, nodes_same, still_then}
use Rattle.sja_session.specs.Lines.{line_at}
use Rattle.sja_session.proofs.session.Session.lines.Goals as goal

pub with_line-lines-requires : goal.with_line-lines-requires
with_line-lines-requires c =
    let inv = c.loop-place.invariant in few_of _ _ _ inv.few c.loop-place-test.true inv.eight

pub loop-place-preserved : goal.loop-place-preserved
loop-place-preserved c =
    let inv = c.loop-place.invariant in let less = c.loop-place-test.true in record {
      still = λ step_runs at.
          let s = inv.still step_runs at in still_then s (c.is_active-line.ensures.still step_runs s.at);
      value = λ step_runs at.
          let s = inv.still step_runs at in let same = nodes_same at s.at in let n = inv.nodes in
          one_more (line_at c.args.self.now step_runs) _ _ _ _ _ less
          (c.is_active-line.ensures.line step_runs s.at (omega (arith, n, same, less)) ∙ line_still s _)
          (inv.value step_runs at) c.with_line-lines.ensures;
      few = more_few _ _ _ _ inv.few c.with_line-lines.ensures;
      nodes = inv.nodes;
      eight = inv.eight;
      same = c.is_active-line.ensures.nodes ∙ inv.same;
    }

pub returns-clause-lines : goal.returns-clause-lines
returns-clause-lines c = λ step_runs at.
    let inv = c.loop-place.invariant in
    all_told (line_at c.args.self.now step_runs) _ _ _ _ c.loop-place-test.false c.loop-place.auto.place-end inv.nodes
    (inv.value step_runs at)
