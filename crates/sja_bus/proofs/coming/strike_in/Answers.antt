use Rattle.std.proofs.Common.{arith, inl, inr}
use Rattle.sja_bus.proofs.coming.strike_in.Goals as goal

pub returns-else-next-bit : goal.returns-else-next-bit
returns-else-next-bit c = λ node below. (
  λ was. inl was,
  λ h. elim h [
    | inl was ↦ was
    | inr hits ↦
        let some = c.in-Some.ensures.some in let other = c.if-next-bit.false in let from = some.0 in
        absurd (some.2 c.args.bit node (omega arith) (omega (arith, from, other)) below hits)
  ],
)
