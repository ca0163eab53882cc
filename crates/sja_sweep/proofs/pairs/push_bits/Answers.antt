use Rattle.std.proofs.Common.{◌-◌, arith}
use Rattle.sja_sweep.specs.Targets.{pair}
use Rattle.sja_sweep.proofs.TriedStrikes.Gathers.{map_from, map_end}
use Rattle.sja_sweep.proofs.pairs.push_bits.Goals as goal

pub loop-bit-preserved : goal.loop-bit-preserved
loop-bit-preserved c =
    let low = c.loop-bit.invariant.low in
    let high = c.loop-bit.invariant.high in record {
      pushed = map_from (pair c.args.node c.args.other c.args.later) c.args.asked.first c.loop-bit.bit _ _ _ low
          c.loop-bit.invariant.pushed c.in_ok-push.ensures.items;
      low = omega (arith, low);
      high = omega (arith, high);
    }

pub returns : goal.returns
returns c =
    let inv = c.loop-bit.invariant in let low = inv.low in let high = inv.high in
    map_end (pair c.args.node c.args.other c.args.later) c.args.asked.first c.loop-bit.bit
    (c.args.asked.count - c.args.later) _ _ inv.pushed (omega (arith, low, high))
