use Rattle.std.proofs.Common.{◌-◌, arith}
use Rattle.sja_sweep.specs.Inside.Asking.{others_paired}
use Rattle.sja_sweep.proofs.TriedStrikes.Gathers.{count_from}
use Rattle.sja_sweep.proofs.pair_count.count_pairs.Goals as goal

pub loop-node-preserved : goal.loop-node-preserved
loop-node-preserved c =
    let low = c.loop-node.invariant.low in
    let high = c.loop-node.invariant.high in
    let few = c.loop-node.invariant.few in
    let more = c.count_others-runs.ensures.few in record {
      count = count_from (others_paired c.args.within c.args.asked) c.args.asked.from
          c.loop-node.node c.loop-node.runs _ _ low
          c.loop-node.invariant.count c.count_others-runs.ensures.is (omega arith);
      low = omega (arith, low);
      high = omega (arith, high);
      few = omega (arith, few, low, more);
    }
