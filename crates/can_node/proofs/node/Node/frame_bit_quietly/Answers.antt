use Rattle.std.proofs.Common.{◌≡◌, refl, sym, subst, rules}
use Rattle.can_levels.specs.declared.level.Level.{Level}
use Rattle.can_bits.specs.declared.shift.Shift.{Shift}
use Rattle.can_node.specs.declared.node.Node.{Node}
use Rattle.can_node.specs.Stands.{Samples, is_receiving}
use Rattle.can_node_rules.specs.Outcomes.{nothing}
use Rattle.can_node.proofs.Machine.Quiet.{quietly}
use Rattle.can_node.proofs.Machine.QuietReceiver.{receives_inside}
use Rattle.can_node.proofs.Machine.QuietTransmitter.{transmits_inside}
use Rattle.can_node.proofs.node.Node.frame_bit_quietly.Goals as goal

-- src/quiet.rt
pub returns-then-take_inside-clause-quiet : goal.returns-then-take_inside-clause-quiet
returns-then-take_inside-clause-quiet c = λ stage goes.
    quietly c.args.self.now _ c.args.level refl refl
    (receives_inside c.args.self.now c.take_inside.new.self c.args.level stage c.in-Receiver.is
    (λ l stands. (c.take_inside.ensures.exactly l stands).0 c.if-take_inside.true)
    (c.take_inside.ensures.takes c.if-take_inside.true) (c.take_inside.ensures.inside c.if-take_inside.true))

pub returns-else-take_inside-clause-quiet : goal.returns-else-take_inside-clause-quiet
returns-else-take_inside-clause-quiet c = λ stage goes.
    let old = c.args.self.now in
    let P : Shift → Type 0 = λ s. let m : Node =
    record old { shift = s } in Samples m c.receive_quietly.new.self c.args.level (nothing (is_receiving m)) in
    subst P (c.take_inside.ensures.same c.if-take_inside.false)
    (c.receive_quietly.ensures.quiet stage c.in-Receiver.is goes)

pub returns-then-take_inside-2-clause-quiet : goal.returns-then-take_inside-2-clause-quiet
returns-then-take_inside-2-clause-quiet c = λ stage goes.
    let seen : c.args.level ≡ c.args.self.now.next = search rules in
    quietly c.args.self.now _ c.args.level refl refl
    (transmits_inside c.args.self.now c.take_inside-else-ne.new.self c.next_of-self.result c.args.level stage
    c.in-Transmitter.is seen
    (λ l stands. (c.take_inside-else-ne.ensures.exactly l stands).0 c.if-take_inside-2.true)
    (c.take_inside-else-ne.ensures.takes c.if-take_inside-2.true)
    (c.take_inside-else-ne.ensures.inside c.if-take_inside-2.true) c.next_of-self.ensures.of_frame)

pub returns-else-take_inside-2-clause-quiet : goal.returns-else-take_inside-2-clause-quiet
returns-else-take_inside-2-clause-quiet c = λ stage goes.
    let old = c.args.self.now in
    let seen : c.args.level ≡ c.args.self.now.next = search rules in
    let P : Shift → Type 0 = λ s. let m : Node =
    record old { shift = s } in Samples m c.transmit_quietly.new.self old.next (nothing (is_receiving m)) in
    let Q : Level → Type 0 = λ x. Samples old c.transmit_quietly.new.self x (nothing (is_receiving old)) in
    subst Q (sym seen) (subst P (c.take_inside-else-ne.ensures.same c.if-take_inside-2.false)
    (c.transmit_quietly.ensures.quiet stage c.in-Transmitter.is goes))
