use Rattle.std.proofs.Common.{◌-◌, arith}
use Rattle.sja_sweep.specs.Inside.Asking.{laters_paired}
use Rattle.sja_sweep.proofs.TriedStrikes.Gathers.{gather_from, gather_end}
use Rattle.sja_sweep.proofs.pairs.push_others.Goals as goal

pub loop-other-preserved : goal.loop-other-preserved
loop-other-preserved c =
    let low = c.loop-other.invariant.low in
    let high = c.loop-other.invariant.high in record {
      pushed = gather_from (laters_paired c.args.within c.args.asked c.args.node) c.args.asked.from
          c.loop-other.other _ _ _ low
          c.loop-other.invariant.pushed c.in_ok-push_laters.ensures;
      low = omega (arith, low);
      high = omega (arith, high);
    }

pub returns : goal.returns
returns c =
    let inv = c.loop-other.invariant in let low = inv.low in let high = inv.high in
    gather_end (laters_paired c.args.within c.args.asked c.args.node) c.args.asked.from c.loop-other.other
    (c.args.asked.end - c.args.asked.from) _ _ inv.pushed (omega (arith, low, high))
