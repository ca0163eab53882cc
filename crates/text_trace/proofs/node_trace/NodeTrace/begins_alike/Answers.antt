use Rattle.std.proofs.Common.{sym, ap, ◌∙◌}
use Rattle.text_trace.specs.Hands.{counters_of}
use Rattle.text_trace.proofs.node_trace.NodeTrace.begins_alike.Goals as goal

pub returns : goal.returns
returns c = λ yes. record {
  bit = c.rest_bit.result;
  looks = c.rest_bit.ensures;
  left = sym (c.counters_of-left.ensures ∙ ap (counters_of c.args.self.now.short) c.bit.ensures)
      ∙ c.are_same.ensures yes;
}
