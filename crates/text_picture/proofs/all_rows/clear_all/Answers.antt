use Rattle.std.proofs.Common.{◌<◌, length, rules}
use Rattle.lemmas.proofs.ChangedInTurn.{part_none, part_next, part_all}
use Rattle.text_picture.specs.Drawing.{Clears}
use Rattle.text_picture.proofs.all_rows.clear_all.Goals as goal

pub loop-k-init : goal.loop-k-init
loop-k-init c = part_none Clears c.args.rows.now

pub loop-k-preserved : goal.loop-k-preserved
loop-k-preserved c =
    let here : c.loop-k.k < length c.loop-k.rows = search rules in
    part_next Clears c.loop-k.k c.args.rows.now c.loop-k.rows c.index-rows-k.result c.clear.new.self
    c.loop-k.invariant here c.clear.ensures

pub returns : goal.returns
returns c = part_all Clears c.loop-k.k c.args.rows.now c.loop-k.rows c.loop-k.invariant (search rules)
