use Rattle.std.proofs.Common.{◌-◌, arith}
use Rattle.sja_sweep.specs.Inside.Asking.{laters_paired}
use Rattle.sja_sweep.proofs.TriedStrikes.Gathers.{count_from}
use Rattle.sja_sweep.proofs.pair_count.count_others.Goals as goal

pub loop-other-preserved : goal.loop-other-preserved
loop-other-preserved c =
    let low = c.loop-other.invariant.low in
    let high = c.loop-other.invariant.high in
    let few = c.loop-other.invariant.few in
    let more = c.count_laters-runs.ensures.few in record {
      count = count_from (laters_paired c.args.within c.args.asked c.args.node) c.args.asked.from
          c.loop-other.other c.loop-other.runs _ _ low
          c.loop-other.invariant.count c.count_laters-runs.ensures.is (omega arith);
      low = omega (arith, low);
      high = omega (arith, high);
      few = omega (arith, few, low, more);
    }
