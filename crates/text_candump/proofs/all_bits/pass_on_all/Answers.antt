use Rattle.std.proofs.Common.{◌<◌, length, rules}
use Rattle.lemmas.proofs.ChangedInTurn.{part_none, part_next, part_all}
use Rattle.text_candump.specs.Inside.CandumpProgress.{GoesOn}
use Rattle.text_candump.proofs.all_bits.pass_on_all.Goals as goal

pub loop-k-init : goal.loop-k-init
loop-k-init c = part_none GoesOn c.args.all.now

pub loop-k-preserved : goal.loop-k-preserved
loop-k-preserved c =
    let here : c.loop-k.k < length c.loop-k.all = search rules in
    part_next GoesOn c.loop-k.k c.args.all.now c.loop-k.all c.index-all-k.result c.pass_on.new.self
    c.loop-k.invariant here c.pass_on.ensures

pub returns : goal.returns
returns c = part_all GoesOn c.loop-k.k c.args.all.now c.loop-k.all c.loop-k.invariant (search rules)
