use Rattle.std.proofs.Common.{◌≡◌, ◌+◌, suc, length, string_bytes, refl, rules, arith}
use Rattle.text_trace.proofs.Stories.WrittenBack.{back_count}
use Rattle.text_candump.specs.Inside.CandumpProgress.{IsUpTo}
use Rattle.text_candump.proofs.SoFar.UpTo.{back_more, back_rested, lent_underway, back_all}
use Rattle.text_candump.proofs.candump_text.candump.Goals as goal

pub loop-bit-init : goal.loop-bit-init
loop-bit-init c =
    let up : IsUpTo c.args.errors c.args.log.now.nodes 0 c.in_ok-all.all.items (string_bytes c.new-text.result) =
    search rules in record { most = omega arith; text = up }

pub loop-bit-preserved-then-bit-bits : goal.loop-bit-preserved-then-bit-bits
loop-bit-preserved-then-bit-bits c =
    let all = c.loop-bit.all in
    let bit = c.loop-bit.bit + c.rest_on-bit.result in
    let many : all.len ≡ length all.items = search rules in
    let less = c.if-bit-bits.true in
    let rested = back_rested _ _ c.loop-bit.bit c.rest_on-bit.result bit all.len all.items c.as_mut_slice.result.now
    c.rest_on-bit.new.all _ many c.as_mut_slice.ensures.value c.rest_on-bit.auto.all c.loop-bit.invariant.text
    c.rest_on-bit.ensures.rested refl in
    let one : bit + 1 ≡ suc bit = omega arith in
    let still = back_count all.items c.as_mut_slice.result.now c.rest_on-bit.new.all all.len many
    c.as_mut_slice.ensures.value c.rest_on-bit.auto.all in
    record {
      most = omega (arith, less, c.bits-in-loop-bit-2.ensures);
      text = back_more _ _ bit (bit + 1) all.len _ c.as_mut_slice-then-bit-bits.result.now c.pass_on_all.new.all
          c.as_slice.result.now _ _ still c.as_mut_slice-then-bit-bits.ensures.value c.pass_on_all.auto.all
          c.as_slice.ensures.value rested c.pass_on_all.ensures c.in_ok-put_bit.ensures one;
    }

pub loop-bit-preserved : goal.loop-bit-preserved
loop-bit-preserved c =
    let all = c.loop-bit.all in
    let bit = c.loop-bit.bit + c.rest_on-bit.result in
    let many : all.len ≡ length all.items = search rules in
    let most = c.rest_on-bit.ensures.most in let before = c.loop-bit.invariant.most in
    record {
      most = omega (arith, most, before, c.bits-in-loop-bit.ensures);
      text = back_rested _ _ c.loop-bit.bit c.rest_on-bit.result bit all.len all.items c.as_mut_slice.result.now
          c.rest_on-bit.new.all _ many c.as_mut_slice.ensures.value c.rest_on-bit.auto.all c.loop-bit.invariant.text
          c.rest_on-bit.ensures.rested refl;
    }

pub finish_all-requires : goal.finish_all-requires
finish_all-requires c = lent_underway _ _ _ _ _ _ c.as_mut_slice-2.ensures.value c.loop-bit.invariant.text

pub returns : goal.returns
returns c =
    let most = c.loop-bit.invariant.most in let over = c.loop-bit-test.false in
    let ends : c.loop-bit.bit ≡ c.args.log.now.bits = omega (arith, most, over, c.bits.ensures) in
    back_all c.args.errors c.args.log.now c.loop-bit.bit c.loop-bit.all.items c.as_mut_slice-2.result.now
    c.finish_all.new.all _ ends c.as_mut_slice-2.ensures.value c.loop-bit.invariant.text c.finish_all.ensures
