use Rattle.std.proofs.Common.{◌≡◌, not, ap, nat_le, subst, sym, arith}
use Rattle.can_node.specs.declared.node.Node.{Node}
use Rattle.can_node_rules.specs.declared.bit_events.BitEvents.{BitEvents}
use Rattle.can_node.specs.Standing.{context_of}
use Rattle.can_node.specs.Stands.{Samples}
use Rattle.can_node_rules.specs.Outcomes.{nothing}
use Rattle.can_node.proofs.Machine.SampleSteps.{Counts, sampled}
use Rattle.can_node.proofs.node.Node.sample_fully_with.Goals as goal

-- src/bit.rt: `events` by `grind`, so that another role is refused by values
pub returns-clause-samples : goal.returns-clause-samples
returns-clause-samples c =
    let old = c.args.self.now in
    let kept = c.after_bit-after.ensures.kept in
    let context = c.step_bit.new.self in
    let stepped : Node = record c.after_bit-after.new.self { context = context } in
    let last = c.go_off.new.self in
    let events : c.nothing-events.result ≡ nothing (not c.is_transmitter-receiving.result) = grind arith in
    let Counted : Node → Type 0 = λ m. Counts m.context m.stage (context_of context) old.next c.args.level
    c.is_some-loses.result in
    let Told : BitEvents → Type 0 = λ e. Samples old (record last { next = c.next_level-self.result }) c.args.level
    (record e {
      received = c.received-events.result;
      ended = c.ended-events.result;
      lost = c.lost_arbitration-lost.result;
      fault = c.fault-events.result;
      went_off = nat_le 256 c.go_to.new.self.context.counters.tec;
      recovered = c.recovers.result;
    }) in
    subst Told (sym events) (λ entries found h x drives.
    sampled old stepped c.go_to.new.self (record last { next = c.next_level-self.result }) entries found h x
    c.args.level c.after_bit-after.result
    c.received-events.result c.ended-events.result c.lost_arbitration-lost.result c.fault-events.result
    c.is_transmitter-receiving.result c.recovers.result
    c.is_some-held.result c.is_sent-sent.result c.is_some-loses.result
    drives c.lost_arbitration-lost.ensures c.is_some-held.ensures c.is_some-loses.ensures
    (λ d place bits at kept body. c.after_bit-after.ensures.turn d place bits at kept body)
    (ap (λ (m : Node). record m { context = context }) kept) (subst Counted kept c.step_bit.ensures)
    c.received-events.ensures c.is_sent-sent.ensures c.fault-events.ensures
    c.go_to.ensures.context c.go_to.ensures.at c.go_to.ensures.body c.is_transmitter-receiving.ensures
    c.recovers.ensures c.ended-events.ensures
    c.go_off.ensures.context
    (λ few. let same = c.go_off.ensures.on few in (ap (λ (m : Node). m.stage) same, ap (λ (m : Node). m.shift) same))
    c.go_off.ensures.off c.go_off.ensures.body c.next_level-self.ensures)
