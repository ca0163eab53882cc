use Rattle.std.proofs.Common.{ap}
use Rattle.text_trace.proofs.Stories.Telling.{passed_on}
use Rattle.text_trace.proofs.node_bits.NodeBits.pass.Goals as goal

pub returns : goal.returns
returns c = record {
  passed = passed_on c.args.self.now (record c.args.self.now { replay = c.pass.new.self }) _ c.if-self.false
      c.if-self.false c.pass.ensures.passed;
  none = λ none. ap (λ r. record c.args.self.now { replay = r }) (c.pass.ensures.none none);
}
