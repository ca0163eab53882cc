use Rattle.std.proofs.Common.{◌≡◌, None, ap, ◌∙◌, subst, rules}
use Rattle.text_trace.specs.declared.node_bits.NodeBits.{NodeBits}
use Rattle.text_trace.specs.Hands.{HandGoesOn, counters_of}
use Rattle.text_trace.proofs.Stories.Telling.{hand_on}
use Rattle.text_trace.proofs.node_trace.NodeTrace.pass_on.Goals as goal

pub returns-then-is_none-clause-passes : goal.returns-then-is_none-clause-passes
returns-then-is_none-clause-passes c =
    let none : c.pass-self.result ≡ None = search rules in
    let P : NodeBits → Type 0 = λ b. HandGoesOn b c.go_on.new.self c.pass-self.result in record {
      same = c.go_to.ensures;
      counters = c.keep_counters.ensures ∙ ap (counters_of c.args.self.now.short) c.bit.ensures;
      bits = subst P (c.pass-self.ensures.none none)
          (hand_on c.pass-self.new.self c.go_on.new.self c.pass-self.result none
          c.go_on.ensures);
    }

pub returns-else-is_none-clause-passes : goal.returns-else-is_none-clause-passes
returns-else-is_none-clause-passes c = record {
  same = c.go_to.ensures;
  counters = c.keep_counters.ensures ∙ ap (counters_of c.args.self.now.short) c.bit.ensures;
  bits = search rules;
}
