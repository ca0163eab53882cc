use Rattle.std.proofs.Common.{arith}
use Rattle.text_wave.specs.Inside.Changes.{node_changes}
use Rattle.text_report.proofs.WrittenLines.Written.{numbered_next, numbered_end}
use Rattle.text_wave.proofs.changes.put_all_changes.Goals as goal

pub loop-probe-preserved : goal.loop-probe-preserved
loop-probe-preserved c = record {
  text = numbered_next (node_changes c.args.before c.args.now) c.args.probes.now c.loop-probe.probe-index
      c.loop-probe.number c.probe-item.result _ _ _
      c.loop-probe-test.true c.probe-item.is c.in_ok-put_node_changes.ensures c.loop-probe.invariant.text;
  number = let n = c.loop-probe.invariant.number in omega (arith, n);
}

pub returns : goal.returns
returns c =
    numbered_end (node_changes c.args.before c.args.now) c.args.probes.now c.loop-probe.probe-index
    c.loop-probe.number _ _ c.loop-probe-test.false c.loop-probe.invariant.text
