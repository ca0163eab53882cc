use Rattle.std.proofs.Common.{◌≡◌, ◌≤◌, ◌-◌, arith, rules}
use Rattle.text_trace.proofs.DriverSteps.StepOrders.{quiet_before, quiet_end}
use Rattle.text_trace.proofs.node_steps.NodeSteps.quiet_from.Goals as goal

pub returns-then-place-self-clause-quiet : goal.returns-then-place-self-clause-quiet
returns-then-place-self-clause-quiet c = λ i node from before.
    quiet_end c.args.bit i node c.first_at-place.result c.args.self.now.steps.now c.args.self.now.done.now
    c.first_at-place.ensures from c.if-place-self.true

pub returns-clause-quiet : goal.returns-clause-quiet
returns-clause-quiet c = λ i node from before.
    let d = c.index-self-place.result in
    let sub : c.saturating_sub-least.result ≡ d.bits - c.args.bit =
    rw c.index-self-place.is c.saturating_sub-least.ensures in
    let least : c.min.result ≤ c.saturating_sub-least.result = search rules in
    quiet_before c.args.bit i node c.first_at-place.result c.args.self.now.steps.now c.args.self.now.done.now d
    c.first_at-place.ensures from c.if-place-self.false c.index-self-place.is
    (omega (arith, from, before, sub, least)) (c.args.self.now.ascends c.if-not-self.false)
