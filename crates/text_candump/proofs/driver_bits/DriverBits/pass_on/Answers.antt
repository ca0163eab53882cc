use Rattle.std.proofs.Common.{None, Some, refl, subst}
use Rattle.text_trace.specs.declared.node_bits.NodeBits.{NodeBits}
use Rattle.text_trace.specs.Hands.{HandGoesOn}
use Rattle.text_trace.proofs.Stories.Telling.{hand_on}
use Rattle.text_candump.proofs.driver_bits.DriverBits.pass_on.Goals as goal

pub returns-in-Some : goal.returns-in-Some
returns-in-Some c = record {
  left = c.now_left-self.ensures;
  short = Some c.in-Some.short;
  passed = refl;
  bits = c.in-Some.ensures.passed;
}

pub returns-in-None : goal.returns-in-None
returns-in-None c =
    let P : NodeBits → Type 0 = λ b. HandGoesOn b c.go_on.new.self None in record {
      left = c.now_left-self.ensures;
      short = None;
      passed = refl;
      bits = subst P (c.in-None.ensures.none refl) (hand_on c.pass.new.self c.go_on.new.self None refl c.go_on.ensures);
    }
