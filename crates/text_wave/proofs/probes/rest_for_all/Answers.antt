use Rattle.std.proofs.Common.{arith, rules}
use Rattle.text_wave.proofs.BitByBit.Rested.{probe_at}
use Rattle.text_wave.proofs.probes.rest_for_all.Goals as goal

pub loop-probe-preserved : goal.loop-probe-preserved
loop-probe-preserved c =
    let l = c.loop-probe in
    let least = c.rest_for-count.ensures.most in
    record {
      most = (let before = l.invariant.most in omega (arith, least, before));
      rests = λ some k t less.
          probe_at l.count c.rest_for-count.result c.args.probes.now l.probe-index c.probe-item.result c.probe-item.is
          least (l.invariant.rests (omega (arith, some, least))) (c.rest_for-count.ensures.rests some) k t
          (omega (arith, less)) (search rules);
    }

pub returns-clause-rests : goal.returns-clause-rests
returns-clause-rests c = λ some k t less.
    let l = c.loop-probe in let all = c.loop-probe-test.false in l.invariant.rests some k t (omega (arith, less, all))
