use Rattle.std.proofs.Common.{◌<◌, length, rules, sym, subst}
use Rattle.lemmas.proofs.ChangedInTurn.{part_none, part_at, part_next, part_all}
use Rattle.text_candump.specs.Inside.CandumpProgress.{MayStay, RestsBy}
use Rattle.text_candump.specs.declared.driver_bits.DriverBits.{DriverBits}
use Rattle.text_candump.proofs.all_bits.rest_all.Goals as goal

pub loop-k-init : goal.loop-k-init
loop-k-init c = part_none (RestsBy c.args.count) c.args.all.now

pub rest-requires : goal.rest-requires
rest-requires c =
    let k = c.loop-k.k in let d = c.index-all-k.result in
    let here : k < length c.loop-k.all = search rules in
    let there : k < length c.args.all.now = search rules in
    let P : DriverBits → Type 0 = λ b. MayStay c.args.count b in
    subst P (sym (part_at (RestsBy c.args.count) k c.args.all.now c.loop-k.all d c.loop-k.invariant here))
    (c.requires k d there)

pub loop-k-preserved : goal.loop-k-preserved
loop-k-preserved c =
    let here : c.loop-k.k < length c.loop-k.all = search rules in
    part_next (RestsBy c.args.count) c.loop-k.k c.args.all.now c.loop-k.all c.index-all-k.result c.rest.new.self
    c.loop-k.invariant here c.rest.ensures

pub returns : goal.returns
returns c = part_all (RestsBy c.args.count) c.loop-k.k c.args.all.now c.loop-k.all c.loop-k.invariant (search rules)
