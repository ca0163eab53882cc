use Rattle.std.proofs.Common.{refl}
use Rattle.text_trace.proofs.Stories.Telling.{over_on, bit_on, none_on}
use Rattle.text_trace.proofs.node_bits.NodeBits.go_on.Goals as goal

pub returns-then-self : goal.returns-then-self
returns-then-self c = over_on _ _ c.if-self.true c.if-self.true refl

pub returns-in-Some : goal.returns-in-Some
returns-in-Some c = bit_on _ _ c.in-Some.bit c.if-self.false c.if-self.false refl c.in-Some.ensures.some

pub returns-in-None : goal.returns-in-None
returns-in-None c = none_on _ _ c.if-self.false refl refl c.in-None.ensures.none
