use Rattle.std.proofs.Common.{inl, inr, arith}
use Rattle.can_notation.proofs.DataLemmas.{length_from_text, no_pair, pair_more}
use Rattle.can_notation.proofs.body.data_bytes.Goals as goal

pub returns-then-digits-ne0-clause-none : goal.returns-then-digits-ne0-clause-none
returns-then-digits-ne0-clause-none c = λ bytes few fit e.
    let len = length_from_text c.args.digits.now bytes e in
    elim c.then-digits-ne0.either [ inl odd ↦ odd (omega arith) | inr long ↦ omega arith ]

pub returns-in_err-number_of-clause-none : goal.returns-in_err-number_of-clause-none
returns-in_err-number_of-clause-none c =
    rw c.from_residual.ensures (λ bytes few fit e. no_pair c.args.digits.now c.loop-i.i _ (omega arith) (omega arith)
    c.in_err-number_of.ensures.none bytes e)

pub loop-i-preserved : goal.loop-i-preserved
loop-i-preserved c =
    let (small, pair) = c.in_ok-number_of.ensures.some in
    let (fit, said) = pair_more c.args.digits.now c.loop-i.bytes.items c.loop-i.i _ c.in_ok-number_of.field-0
    (omega arith) (omega arith) c.loop-i.invariant.fit c.loop-i.invariant.said small pair in
    record { len = omega arith; fit = rw c.push.ensures.items fit; said = rw c.push.ensures.items said }
