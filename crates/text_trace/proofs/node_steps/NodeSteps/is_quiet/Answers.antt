use Rattle.std.proofs.Common.{◌≡◌, ◌<◌, ◌≤◌, true, arith, rules}
use Rattle.text_trace.proofs.DriverSteps.StepOrders.{quiet_here}
use Rattle.text_trace.proofs.node_steps.NodeSteps.is_quiet.Goals as goal

pub returns : goal.returns
returns c = λ yes node.
    let s = c.args.self.now in
    let order : s.in_order ≡ true = search rules in
    let from : s.past ≤ c.args.bit = search rules in
    let less : c.args.bit < s.next = search (rules, yes) in
    quiet_here c.args.bit s.past node s.place s.next s.steps.now s.done.now s.are_past from s.is_next less
    (s.ascends order)
