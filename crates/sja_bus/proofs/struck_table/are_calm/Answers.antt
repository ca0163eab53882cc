use Rattle.std.proofs.Common.{◌<◌, length, rules}
use Rattle.std.proofs.lemmas.Bool.{and_parts}
use Rattle.sja_bus.proofs.WholeBus.Marking.{calm_more}
use Rattle.sja_bus.proofs.struck_table.are_calm.Goals as goal

pub loop-k-preserved : goal.loop-k-preserved
loop-k-preserved c = λ both.
    let few : c.loop-k.k < length c.args.struck.now = search rules in
    let yes = and_parts c.loop-k.none c.is_empty-none.result both in
    calm_more c.args.struck.now c.loop-k.k _ few (c.is_empty-none.ensures.none yes.1) (c.loop-k.invariant yes.0)
