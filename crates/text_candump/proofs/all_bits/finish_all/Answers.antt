use Rattle.std.proofs.Common.{◌<◌, length, rules, sym, subst}
use Rattle.lemmas.proofs.ChangedInTurn.{part_none, part_at, part_next, part_all}
use Rattle.text_trace.specs.Telling.{IsUnderway}
use Rattle.text_candump.specs.declared.driver_bits.DriverBits.{DriverBits}
use Rattle.text_candump.specs.Inside.CandumpProgress.{GoesToEnd}
use Rattle.text_candump.proofs.SoFar.Stories.{underway_at}
use Rattle.text_candump.proofs.all_bits.finish_all.Goals as goal

pub loop-k-init : goal.loop-k-init
loop-k-init c = part_none GoesToEnd c.args.all.now

pub finish-requires : goal.finish-requires
finish-requires c =
    let k = c.loop-k.k in let d = c.index-all-k.result in
    let here : k < length c.loop-k.all = search rules in
    let there : k < length c.args.all.now = search rules in
    let P : DriverBits → Type 0 = λ b. IsUnderway b.bits in
    subst P (sym (part_at GoesToEnd k c.args.all.now c.loop-k.all d c.loop-k.invariant here))
    (underway_at c.args.all.now k d c.requires there)

pub loop-k-preserved : goal.loop-k-preserved
loop-k-preserved c =
    let here : c.loop-k.k < length c.loop-k.all = search rules in
    part_next GoesToEnd c.loop-k.k c.args.all.now c.loop-k.all c.index-all-k.result c.finish.new.self
    c.loop-k.invariant here c.finish.ensures

pub returns : goal.returns
returns c = part_all GoesToEnd c.loop-k.k c.args.all.now c.loop-k.all c.loop-k.invariant (search rules)
