use Rattle.std.proofs.Common.{◌≡◌, ◌+◌, suc, arith}
use Rattle.text_wave.proofs.SoFar.UpTo.{gone_more, gone_rested}
use Rattle.text_wave.proofs.wave_text.put_more.Goals as goal

pub returns-then-count-eq0 : goal.returns-then-count-eq0
returns-then-count-eq0 c = record {
  further = omega arith;
  within = omega (arith, c.requires);
  gone = λ first start gone.
      (let one : c.args.bit + 1 ≡ suc c.args.bit = omega arith in
      gone_more c.args.bit (c.args.bit + 1) first c.args.probes.now _ _ _ _ one gone c.in_ok-put_next.ensures.probes
      c.in_ok-put_next.ensures.text);
}

pub rest_all-requires : goal.rest_all-requires
rest_all-requires c = c.rest_for_all-count.ensures.rests (omega (arith, c.if-count-eq0.false))

pub returns : goal.returns
returns c =
    let n = c.rest_for_all-count.result in
    let most = c.rest_for_all-count.ensures.most in
    record {
      further = omega (arith, c.if-count-eq0.false);
      within = omega (arith, most, c.requires);
      gone = λ first start gone.
          gone_rested c.args.bit n (c.args.bit + n) first c.args.probes.now c.rest_all.new.probes _ _
          (omega (arith, c.if-count-eq0.false)) (omega arith) gone
          (c.rest_for_all-count.ensures.rests (omega (arith, c.if-count-eq0.false))) c.rest_all.ensures;
    }
