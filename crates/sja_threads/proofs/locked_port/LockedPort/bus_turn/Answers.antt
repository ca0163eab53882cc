use Rattle.std.proofs.Common.{ℕ, false, sym, ap, ◌∙◌, subst}
use Rattle.sja_thread_promises.specs.declared.port_update.PortUpdate.TheVariants.{Turn}
use Rattle.sja_thread_promises.specs.Ordering.{abort_told, bits_told, ended_told, one_more}
use Rattle.sja_threads.specs.Inside.Names.{IsNamed}
use Rattle.sja_threads.proofs.Twin.Led.{abort_push, ended_turn, led_turn, turn_push}
use Rattle.sja_threads.proofs.locked_port.LockedPort.bus_turn.Goals as goal

pub invariant_of-self : goal.invariant_of-self
invariant_of-self g c = let inv = c.self.invariant in let a = c.add.ensures in record {
  turns = subst (λ (n : ℕ). IsNamed g.N.Order.turns c.self.inside.node n) (sym a.kept_name) inv.turns;
  acts = inv.acts;
  bits = c.saturating_add-self-inside.ensures ∙ ap one_more inv.bits
      ∙ sym (ap bits_told a.kept ∙ turn_push 0 c.args.turn c.self.inside.turns.list);
  led = led_turn g.N.Order.version c.self.inside.turns.list c.add.new.kept.list c.self.inside.acts.list
      c.self.inside.port c.bus_turn.new.self c.args.turn c.bus_turn.ensures.turn a.kept inv.led;
}

pub invariant_of-told : goal.invariant_of-told
invariant_of-told g c = let told = c.args.told.now in let a = c.add.ensures in record {
  named = subst (λ (n : ℕ). IsNamed g.N.Order.turns told.node n) (sym a.known_name) told.named;
  ended_is = told.ended_is ∙ sym (ap ended_told a.known ∙ ended_turn false c.args.turn told.known.list);
  abort_is = sym (ap abort_told a.known ∙ abort_push (Turn c.args.turn) told.known.list);
}
