use Rattle.std.proofs.Common.{arith, rules}
use Rattle.text_candump.proofs.SoFar.Resting.{stay_at}
use Rattle.text_candump.proofs.all_bits.rest_for_all.Goals as goal

pub loop-bits-preserved : goal.loop-bits-preserved
loop-bits-preserved c =
    let l = c.loop-bits in
    let least = c.rest_for-count.ensures.most in
    record {
      most = (let before = l.invariant.most in omega (arith, least, before));
      rests = λ some k d less.
          stay_at l.count c.rest_for-count.result c.args.all.now l.bits-index c.bits-item.result c.bits-item.is least
          (l.invariant.rests (omega (arith, some, least))) (c.rest_for-count.ensures.rests some) k d
          (omega (arith, less)) (search rules);
    }

pub returns-clause-rests : goal.returns-clause-rests
returns-clause-rests c = λ some k d less.
    let all = c.loop-bits-test.false in c.loop-bits.invariant.rests some k d (omega (arith, less, all))
