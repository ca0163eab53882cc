use Rattle.std.proofs.Common.{refl, arith}
use Rattle.can_node_rules.proofs.Waiting.Integrations.{integration_breaks, integration_goes}
use Rattle.can_node_rules.proofs.Waiting.Integrations.{integration_again, integration_ends}
use Rattle.can_node.proofs.bus_integration.after_integration_bit.Goals as goal

pub returns-in-Dominant : goal.returns-in-Dominant
returns-in-Dominant c shift before now bits h =
    (refl, integration_breaks c.args.left c.args.run c.args.seen before bits c.in-Dominant.is h)

pub returns-then-run-lt-LAST_OF_ELEVEN : goal.returns-then-run-lt-LAST_OF_ELEVEN
returns-then-run-lt-LAST_OF_ELEVEN c shift before now bits h = (
  refl,
  integration_goes c.args.left c.args.run _ c.args.seen before bits c.in-Recessive.is c.if-run-lt-LAST_OF_ELEVEN.true
      (omega arith) h,
)

pub returns-then-left-gt1 : goal.returns-then-left-gt1
returns-then-left-gt1 c shift before now bits h = (
  refl,
  integration_again c.args.left c.args.run _ _ c.args.seen before bits c.in-Recessive.is (omega arith)
      c.if-left-gt1.true (omega arith) (omega arith) h,
)

pub returns-else-left-gt1 : goal.returns-else-left-gt1
returns-else-left-gt1 c shift before now bits h =
    integration_ends c.args.left c.args.run c.args.seen before bits c.in-Recessive.is (omega arith) (omega arith) h
