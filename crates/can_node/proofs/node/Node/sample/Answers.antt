use Rattle.std.proofs.Common.{◌≡◌, not, ap, sym, subst, ◌∙◌}
use Rattle.can_node.specs.declared.node.Node.{Node}
use Rattle.can_node_rules.specs.declared.bit_events.BitEvents.{BitEvents}
use Rattle.can_node.specs.Stands.{Samples, is_receiving}
use Rattle.can_node_rules.specs.Outcomes.{nothing}
use Rattle.can_node.proofs.Machine.Rests.{rests_at}
use Rattle.can_node.proofs.node.Node.sample.Goals.{After-nothing, After-sample_fully}
use Rattle.can_node.proofs.node.Node.sample.Goals as goal

-- the quick way
quick : (c : After-nothing) → Samples c.args.self.now c.sample_quietly.new.self c.args.level c.nothing.result
quick c =
    let old = c.args.self.now in
    let shown = c.sample_quietly.ensures.shown c.if-sample_quietly.true in
    let told : nothing (is_receiving old) ≡ c.nothing.result =
    sym (c.nothing.ensures ∙ ap (λ t. nothing (not t)) c.is_transmitter.ensures
    ∙ ap (λ t. nothing t) shown.receiving) in
    let P : BitEvents → Type 0 = λ e. Samples old c.sample_quietly.new.self c.args.level e in
    subst P told (c.sample_quietly.ensures.quiet c.if-sample_quietly.true)

-- the general way, of a node that is what it was
general : (c : After-sample_fully) → Samples c.args.self.now c.sample_fully.new.self c.args.level c.sample_fully.result
general c =
    let P : Node → Type 0 = λ m. Samples m c.sample_fully.new.self c.args.level c.sample_fully.result in
    subst P (c.sample_quietly.ensures.same c.if-sample_quietly.false) c.sample_fully.ensures.samples

-- src/node.rt
pub returns-then-sample_quietly-clause-samples : goal.returns-then-sample_quietly-clause-samples
returns-then-sample_quietly-clause-samples c = quick c

pub returns-else-sample_quietly-clause-samples : goal.returns-else-sample_quietly-clause-samples
returns-else-sample_quietly-clause-samples c = general c

pub returns-then-sample_quietly-clause-rests : goal.returns-then-sample_quietly-clause-rests
returns-then-sample_quietly-clause-rests c = λ reset entries found h.
    let old = c.args.self.now in
    rests_at old c.sample_quietly.new.self entries found h c.args.level c.nothing.result reset old.next h.next
    (quick c entries found h old.next h.next)

pub returns-else-sample_quietly-clause-rests : goal.returns-else-sample_quietly-clause-rests
returns-else-sample_quietly-clause-rests c = λ reset entries found h.
    let old = c.args.self.now in
    rests_at old c.sample_fully.new.self entries found h c.args.level c.sample_fully.result reset old.next h.next
    (general c entries found h old.next h.next)
