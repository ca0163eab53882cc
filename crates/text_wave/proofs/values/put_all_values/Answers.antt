use Rattle.std.proofs.Common.{arith}
use Rattle.text_wave.specs.Inside.Changes.{node_values}
use Rattle.text_report.proofs.WrittenLines.Written.{numbered_next, numbered_end}
use Rattle.text_wave.proofs.values.put_all_values.Goals as goal

pub loop-probe-preserved : goal.loop-probe-preserved
loop-probe-preserved c = record {
  text = numbered_next (node_values c.args.bus) c.args.probes.now c.loop-probe.probe-index c.loop-probe.number
      c.probe-item.result _ _ _
      c.loop-probe-test.true c.probe-item.is c.in_ok-put_node_values.ensures c.loop-probe.invariant.text;
  number = let n = c.loop-probe.invariant.number in omega (arith, n);
}

pub returns : goal.returns
returns c =
    numbered_end (node_values c.args.bus) c.args.probes.now c.loop-probe.probe-index c.loop-probe.number _ _
    c.loop-probe-test.false c.loop-probe.invariant.text
