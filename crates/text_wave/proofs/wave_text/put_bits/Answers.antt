use Rattle.std.proofs.Common.{◌≡◌, suc, rules, arith}
use Rattle.text_wave.proofs.SoFar.UpTo.{gone_first, no_bits, gone_end}
use Rattle.text_wave.proofs.wave_text.put_bits.Goals as goal

pub returns-then-bits-eq0 : goal.returns-then-bits-eq0
returns-then-bits-eq0 c = λ parts at.
    let zero : c.bits.result ≡ 0 = search rules in
    let is = c.bits.ensures in
    let none : c.args.log.now.bits ≡ 0 = omega (arith, zero, is) in
    no_bits c.args.log.now.bits parts c.args.probes.now _ none at

pub loop-bit-init : goal.loop-bit-init
loop-bit-init c = record {
  within = omega arith;
  gone = λ parts at. gone_first parts c.args.probes.now _ at;
}

pub loop-bit-preserved : goal.loop-bit-preserved
loop-bit-preserved c = record {
  within = c.in_ok-bit.ensures.within;
  gone = λ parts at. c.in_ok-bit.ensures.gone parts _ (c.loop-bit.invariant.gone parts at);
}

pub returns : goal.returns
returns c = λ parts at.
    let within = c.loop-bit.invariant.within in
    let last : c.args.log.now.bits ≡ suc c.loop-bit.bit = omega (arith, within) in
    gone_end c.loop-bit.bit c.args.log.now.bits _ parts c.loop-bit.probes _ _ _ _ last c.bits-2.ensures
    (c.loop-bit.invariant.gone parts at) c.in_ok-put_end.ensures.probes c.in_ok-put_end.ensures.text
