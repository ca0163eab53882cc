use Rattle.std.proofs.Common.{refl, ap}
use Rattle.std.proofs.lemmas.Result.{on_ok_weaker, IfErr-weaker}
use Rattle.sja_journal.specs.declared.entry.Entry.TheVariants.{Bit}
use Rattle.sja_link.specs.BusLedgers.{link_of}
use Rattle.sja_bus.proofs.ItemsTaken.Breaking.{broken_short}
use Rattle.sja_link.proofs.Growing.Moving.{goes_one, goes_quiet}
use Rattle.sja_bus.proofs.AllNodes.NodeBit.{rest_brings}
use Rattle.sja_bus.proofs.bus_node.BusNode.sample_fully.Goals as goal

pub returns-in_default-clause-stays : goal.returns-in_default-clause-stays
returns-in_default-clause-stays g c = record {
  is_same = g.met.E.BusEnd.same_refl c.args.end.now;
  node = ap (λ l. (link_of l).node) c.sample_in_reset.ensures.kept.1;
  room = c.sample_in_reset.ensures.room;
}

pub returns-in_default-clause-goes : goal.returns-in_default-clause-goes
returns-in_default-clause-goes g c =
    on_ok_weaker c.sample_in_reset.result
    (λ e. rw e (goes_quiet g.E.BusEnd.same g.E.BusEnd.stands g.met.E.BusEnd.same_refl c.args.end.now
    c.args.self.now.journal.entries (Bit c.args.self.now.drives c.args.seen) (λ l. refl)))
    c.sample_in_reset.ensures.entered

pub returns-in_default-clause-brings : goal.returns-in_default-clause-brings
returns-in_default-clause-brings g c =
    rest_brings c.sample_in_reset.result c.args.self.now.journal.entries c.sample_in_reset.new.self.journal.entries
    c.args.self.now.drives c.args.seen c.sample_in_reset.ensures.entered c.sample_in_reset.ensures.quiet

pub returns-clause-stays : goal.returns-clause-stays
returns-clause-stays g c = record {
  is_same = c.sample_running.ensures.same;
  node = ap (λ l. l.node) c.sample_running.ensures.id;
  room = c.sample_running.ensures.room;
}

pub returns-clause-goes : goal.returns-clause-goes
returns-clause-goes g c =
    on_ok_weaker c.sample_running.result
    (λ m. goes_one g.E.BusEnd.same g.E.BusEnd.stands c.args.end.now c.sample_running.new.end
    c.args.self.now.journal.entries c.sample_running.new.self.journal.entries c.args.self.now.ended
    c.sample_running.ensures.same m)
    c.sample_running.ensures.moves

pub returns-in_default-clause-broken : goal.returns-in_default-clause-broken
returns-in_default-clause-broken g c =
    let was = c.args.self.now in let new = c.sample_in_reset.new.self in
    IfErr-weaker c.sample_in_reset.result _ _
    (λ f short. broken_short g.E.BusEnd (link_of was.ledger).node was.journal.room was.journal.entries
    new.journal.entries c.args.end.now f short.0 short.1)
    c.sample_in_reset.ensures.short
