use Rattle.std.proofs.Common.{refl, ap}
use Rattle.text_trace.proofs.node_trace.NodeTrace.rest.Goals as goal

pub returns : goal.returns
returns c = record {
  short = c.rest-short.result;
  short_is = refl;
  looks = c.rest-short.ensures.looks;
  same = c.go_to.ensures;
  counters = refl;
  bits = ap (λ r. record c.args.self.now.bits { replay = r }) c.rest-short.ensures.new;
  passes = c.rest-short.ensures.passes;
}
