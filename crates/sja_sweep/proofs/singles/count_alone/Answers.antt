use Rattle.std.proofs.Common.{◌-◌, sym, arith}
use Rattle.std.proofs.lemmas.List.FromFn.{length-map-range_with_len}
use Rattle.sja_sweep.specs.Targets.{alone}
use Rattle.sja_sweep.specs.Inside.Asking.{bits_alone}
use Rattle.sja_sweep.proofs.TriedStrikes.Gathers.{count_from}
use Rattle.sja_sweep.proofs.singles.count_alone.Goals as goal

pub loop-node-preserved : goal.loop-node-preserved
loop-node-preserved c =
    let low = c.loop-node.invariant.low in
    let high = c.loop-node.invariant.high in
    let few = c.loop-node.invariant.few in record {
      count = count_from (bits_alone c.args.asked) c.args.asked.from c.loop-node.node c.loop-node.runs
          c.args.asked.count _ low c.loop-node.invariant.count
          (sym (length-map-range_with_len (alone c.loop-node.node) c.args.asked.first c.args.asked.count))
          (omega arith);
      low = omega (arith, low);
      high = omega (arith, high);
      few = omega (arith, few, low);
    }
