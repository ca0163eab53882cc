use Rattle.std.proofs.Common.{◌<◌, arith}
use Rattle.text_candump.proofs.SoFar.Resting.{all_still}
use Rattle.text_candump.proofs.all_bits.rest_on.Goals as goal

pub rest_all-requires : goal.rest_all-requires
rest_all-requires c =
    let some : 0 < c.rest_for_all-count.result = omega (arith, c.if-count-eq0.false) in
    c.rest_for_all-count.ensures.rests some

pub returns-then-count-eq0-clause-rested : goal.returns-then-count-eq0-clause-rested
returns-then-count-eq0-clause-rested c = all_still c.args.all.now
