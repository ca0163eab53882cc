use Rattle.std.proofs.Common.{◌-◌, arith}
use Rattle.sja_sweep.specs.Inside.Asking.{others_paired}
use Rattle.sja_sweep.proofs.TriedStrikes.Gathers.{gather_from, gather_end}
use Rattle.sja_sweep.proofs.pairs.push_pairs.Goals as goal

pub loop-node-preserved : goal.loop-node-preserved
loop-node-preserved c =
    let low = c.loop-node.invariant.low in
    let high = c.loop-node.invariant.high in record {
      pushed = gather_from (others_paired c.args.within c.args.asked) c.args.asked.from
          c.loop-node.node _ _ _ low
          c.loop-node.invariant.pushed c.in_ok-push_others.ensures;
      low = omega (arith, low);
      high = omega (arith, high);
    }

pub returns : goal.returns
returns c =
    let inv = c.loop-node.invariant in let low = inv.low in let high = inv.high in
    gather_end (others_paired c.args.within c.args.asked) c.args.asked.from c.loop-node.node
    (c.args.asked.end - c.args.asked.from) _ _ inv.pushed (omega (arith, low, high))
