use Rattle.std.proofs.Common.{◌≡◌, ◌+◌, [], length, string_bytes, refl, rules, arith}
use Rattle.text_trace.proofs.Stories.WrittenBack.{back_told, back_rested, back_count, lent_underway, back_all}
use Rattle.text_trace.proofs.Stories.Passed.{comes_first}
use Rattle.text_trace.proofs.trace_text.trace.Goals as goal

pub loop-bit-init : goal.loop-bit-init
loop-bit-init c =
    let none : string_bytes c.new-text.result ≡ [] = search rules in
    record {
      most = omega arith;
      text = rw none (comes_first _ _ _ _ (rw c.nodes.ensures at c.in_ok-node_traces.ensures));
    }

pub rest_on-requires : goal.rest_on-requires
rest_on-requires c = lent_underway _ _ _ _ _ _ c.as_mut_slice.ensures.value c.loop-bit.invariant.text

pub put_bits-requires-clause-under : goal.put_bits-requires-clause-under
put_bits-requires-clause-under c =
    let t = c.loop-bit.node_traces in
    let bit = c.loop-bit.bit + c.rest_on.result in
    let all : t.len ≡ length t.items = search rules in
    let rested = back_rested _ _ c.loop-bit.bit c.rest_on.result bit t.len t.items c.as_mut_slice.result.now
    c.rest_on.new.node_traces _ all c.as_mut_slice.ensures.value c.rest_on.auto.node_traces c.loop-bit.invariant.text
    c.rest_on.ensures.unsaid refl in
    lent_underway _ _ bit _ _ _ c.as_mut_slice-then-bit-bits.ensures.value rested

pub loop-bit-preserved-then-bit-bits : goal.loop-bit-preserved-then-bit-bits
loop-bit-preserved-then-bit-bits c =
    let t = c.loop-bit.node_traces in
    let bit = c.loop-bit.bit + c.rest_on.result in
    let told = c.in_ok-bit.field-0 in
    let all : t.len ≡ length t.items = search rules in
    let less = c.if-bit-bits.true in
    let most = c.in_ok-bit.ensures.most in
    let rested = back_rested _ _ c.loop-bit.bit c.rest_on.result bit t.len t.items c.as_mut_slice.result.now
    c.rest_on.new.node_traces _ all c.as_mut_slice.ensures.value c.rest_on.auto.node_traces c.loop-bit.invariant.text
    c.rest_on.ensures.unsaid refl in
    let still = back_count t.items c.as_mut_slice.result.now c.rest_on.new.node_traces t.len all
    c.as_mut_slice.ensures.value c.rest_on.auto.node_traces in
    record {
      most = omega (arith, less, most, c.bits-in-loop-bit-2.ensures, c.bits-then-bit-bits.ensures);
      text = back_told _ _ bit told (bit + told) t.len _ c.as_mut_slice-then-bit-bits.result.now
          c.put_bits.new.node_traces _ _ still c.as_mut_slice-then-bit-bits.ensures.value c.put_bits.auto.node_traces
          rested
          c.in_ok-bit.ensures.tells refl;
    }

pub loop-bit-preserved : goal.loop-bit-preserved
loop-bit-preserved c =
    let t = c.loop-bit.node_traces in
    let bit = c.loop-bit.bit + c.rest_on.result in
    let all : t.len ≡ length t.items = search rules in
    let most = c.rest_on.ensures.most in let before = c.loop-bit.invariant.most in
    record {
      most = omega (arith, most, before, c.bits-in-loop-bit.ensures);
      text = back_rested _ _ c.loop-bit.bit c.rest_on.result bit t.len t.items c.as_mut_slice.result.now
          c.rest_on.new.node_traces _ all c.as_mut_slice.ensures.value c.rest_on.auto.node_traces
          c.loop-bit.invariant.text c.rest_on.ensures.unsaid refl;
    }

pub finish_all-requires : goal.finish_all-requires
finish_all-requires c = lent_underway _ _ _ _ _ _ c.as_mut_slice-2.ensures.value c.loop-bit.invariant.text

pub returns : goal.returns
returns c =
    let t = c.loop-bit.node_traces in
    let all : t.len ≡ length t.items = search rules in
    let most = c.loop-bit.invariant.most in
    let over = c.loop-bit-test.false in
    let ends : c.loop-bit.bit ≡ c.args.log.now.bits = omega (arith, most, over, c.bits.ensures) in
    back_all _ c.args.log.now c.loop-bit.bit c.bits-2.result t.len t.items c.as_mut_slice-2.result.now
    c.finish_all.new.node_traces c.as_slice.result.now _ _ ends c.bits-2.ensures all c.as_mut_slice-2.ensures.value
    c.finish_all.auto.node_traces c.as_slice.ensures.value c.loop-bit.invariant.text c.finish_all.ensures
    c.in_ok-put_late_steps.ensures
