use Rattle.std.proofs.Common.{◌+◌, ◌<◌, length, rules, arith}
use Rattle.sja_bus.proofs.WholeBus.Marking.{calm_part}
use Rattle.sja_bus.proofs.struck_table.next_in.Goals as goal

pub loop-at-preserved-then-are_calm : goal.loop-at-preserved-then-are_calm
loop-at-preserved-then-are_calm c =
    let at = c.loop-at.at in let inv = c.loop-at.invariant in let part = c.min.ensures in
    let early : at < length c.args.bits.now = search rules in let on = inv.on in record {
      on = omega (arith, on);
      within = omega (arith, part, early);
      calm = calm_part c.args.bits.now c.args.from at (at + c.min.result) (omega arith) (omega (arith, part, early))
          inv.calm (c.are_calm.ensures c.if-are_calm.true);
    }
