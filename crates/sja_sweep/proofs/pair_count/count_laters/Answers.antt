use Rattle.std.proofs.Common.{◌-◌, sym, arith}
use Rattle.std.proofs.lemmas.List.FromFn.{length-map-range_with_len}
use Rattle.sja_sweep.specs.Targets.{pair, least_later}
use Rattle.sja_sweep.specs.Inside.Asking.{bits_paired}
use Rattle.sja_sweep.proofs.TriedStrikes.Gathers.{count_from}
use Rattle.sja_sweep.proofs.pair_count.count_laters.Goals as goal

pub loop-later-preserved : goal.loop-later-preserved
loop-later-preserved c =
    let low = c.loop-later.invariant.low in
    let high = c.loop-later.invariant.high in
    let few = c.loop-later.invariant.few in record {
      count = count_from (bits_paired c.args.asked c.args.node c.args.other) (least_later c.args.node c.args.other)
          c.loop-later.later c.loop-later.runs (c.args.asked.count - c.loop-later.later) _ low
          c.loop-later.invariant.count
          (sym (length-map-range_with_len (pair c.args.node c.args.other c.loop-later.later) c.args.asked.first
          (c.args.asked.count - c.loop-later.later))) (omega arith);
      low = omega (arith, low);
      high = omega (arith, high);
      few = omega (arith, few, low);
    }
