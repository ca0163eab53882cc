use Rattle.std.proofs.Common.{◌+◌, ◌-◌, min, arith}
use Rattle.sja_sweep.specs.Targets.{least_later}
use Rattle.sja_sweep.specs.Inside.Asking.{bits_paired}
use Rattle.sja_sweep.proofs.TriedStrikes.Gathers.{gather_from, gather_end}
use Rattle.sja_sweep.proofs.pairs.push_laters.Goals as goal

pub loop-later-preserved : goal.loop-later-preserved
loop-later-preserved c =
    let low = c.loop-later.invariant.low in
    let high = c.loop-later.invariant.high in record {
      pushed = gather_from (bits_paired c.args.asked c.args.node c.args.other) (least_later c.args.node c.args.other)
          c.loop-later.later _ _ _ low c.loop-later.invariant.pushed c.in_ok-push_bits.ensures;
      low = omega (arith, low);
      high = omega (arith, high);
    }

pub returns : goal.returns
returns c =
    let least = least_later c.args.node c.args.other in
    let inv = c.loop-later.invariant in let low = inv.low in let high = inv.high in
    let ended = c.end_of-end.ensures in
    let begun = c.least_later-later.ensures.is in
    gather_end (bits_paired c.args.asked c.args.node c.args.other) least c.loop-later.later
    (min (c.args.within + 1) c.args.asked.count - least) _ _ inv.pushed (omega (arith, low, high, ended, begun))
