use Rattle.std.proofs.Common.{rules}
use Rattle.text_trace.proofs.Stories.Rested.{rests_fewer}
use Rattle.text_trace.proofs.node_trace.NodeTrace.rest_for.Goals as goal

pub returns-clause-rests : goal.returns-clause-rests
returns-clause-rests c = λ some. record {
  under = c.if-self.false;
  rests = rests_fewer c.args.self.now.bits.replay c.rest_for-rest.result c.quiet_from.result
      (c.rest_for-rest.ensures.rests (search rules)) c.quiet_from.ensures.most;
  alike = c.begins_alike.ensures (search rules);
  quiet = c.quiet_from.ensures.quiet;
}
