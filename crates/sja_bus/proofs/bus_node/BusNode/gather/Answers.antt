use Rattle.std.proofs.Common.{◌≡◌, ℕ, suc, rules, refl, sym, ap, ◌∙◌, inl, subst}
use Rattle.std.specs.Prelude.{Err}
use Rattle.sja_link.specs.BusLedgers.{link_of}
use Rattle.sja_journal.specs.Opening.{BeginsWithin}
use Rattle.sja_bus_rules.specs.Reasons.{RefusesItem}
use Rattle.lemmas.proofs.Results.{err_is}
use Rattle.sja_bus.specs.declared.bus_node.BusNode.{BusNode}
use Rattle.sja_bus.specs.Inside.AtLinks.{KeepsEnd}
use Rattle.sja_bus.proofs.Links.AtLinks.{stays_refl, stays_trans, has_still}
use Rattle.sja_link.proofs.Growing.Moving.{goes_refl, goes_trans, goes_one}
use Rattle.sja_bus.proofs.ItemsTaken.Refusing.{refuses_here}
use Rattle.sja_journal.proofs.Growing.Items.{items_none}
use Rattle.sja_bus.proofs.AllNodes.NodeBit.{items_push}
use Rattle.sja_bus.proofs.AtPorts.TurnsTold.{takes_one}
use Rattle.sja_bus.proofs.bus_node.BusNode.gather.Goals.{After-take}
use Rattle.sja_bus.proofs.bus_node.BusNode.gather.Goals as goal

pub loop-init : goal.loop-init
loop-init g c = record {
  ready = c.requires.at.ready;
  stays = stays_refl g.E.BusEnd.same g.met.E.BusEnd.same_refl c.args.self.now c.args.end.now;
  goes = goes_refl g.E.BusEnd.same g.E.BusEnd.stands g.met.E.BusEnd.same_refl c.args.end.now
      c.args.self.now.journal.entries;
  items = items_none c.args.self.now.journal.entries;
  within = λ n far was. was;
  untold = inl (refl, refl);
}

pub take-requires : goal.take-requires
take-requires g c =
    let inv = c.loop.invariant in record {
      at = has_still g.E.BusEnd.node g.E.BusEnd.same g.met.E.BusEnd.same_node c.args.self.now c.loop.self
          c.args.end.now c.loop.end c.requires.at inv.stays inv.ready;
    }

-- an item was tried, and the rest is as it was
stays : (g : _) (c : After-take g) →
    KeepsEnd g.E.BusEnd.same c.args.self.now c.take.new.self c.args.end.now c.take.new.end
stays g c =
    stays_trans g.E.BusEnd.same g.met.E.BusEnd.same_trans c.args.self.now c.loop.self c.take.new.self
    c.args.end.now c.loop.end c.take.new.end c.loop.invariant.stays
    (record { is_same = c.take.ensures.same; node = c.take.ensures.node; room = c.take.ensures.room })

-- no activation began whose link the end doesn't have
within : (g : _) (c : After-take g) →
    BeginsWithin (g.E.BusEnd.links c.loop.end) c.loop.self.journal.entries c.take.new.self.journal.entries →
    BeginsWithin (g.E.BusEnd.links c.args.end.now) c.args.self.now.journal.entries c.take.new.self.journal.entries
within g c h =
    let links = g.met.E.BusEnd.same_links c.args.end.now c.loop.end c.loop.invariant.stays.is_same in
    let P : ℕ → Type 0 = λ n. BeginsWithin n c.loop.self.journal.entries c.take.new.self.journal.entries in
    let last = subst P links h in λ n far was. last n far (c.loop.invariant.within n far was)

pub returns-then-not-branch-clause-within : goal.returns-then-not-branch-clause-within
returns-then-not-branch-clause-within g c =
    within g (goal.at.returns-then-not-branch-clause-within g c).After-take c.in_ok-take.ensures.within

pub returns-in_err-take-clause-stays : goal.returns-in_err-take-clause-stays
returns-in_err-take-clause-stays g c = stays g (goal.at.returns-in_err-take-clause-stays g c).After-take

pub returns-then-not-branch-clause-stays : goal.returns-then-not-branch-clause-stays
returns-then-not-branch-clause-stays g c = stays g (goal.at.returns-then-not-branch-clause-stays g c).After-take

pub returns-then-not-branch-clause-goes : goal.returns-then-not-branch-clause-goes
returns-then-not-branch-clause-goes g c =
    let E = g.E.BusEnd in let s = c.loop.self in let met = g.met.E.BusEnd in
    let j = c.args.self.now.journal.entries in let k = c.take.new.self.journal.entries in
    goes_trans E.same E.stands met.same_trans c.args.end.now c.loop.end c.take.new.end j s.journal.entries k
    c.loop.invariant.goes
    (goes_one E.same E.stands c.loop.end c.take.new.end s.journal.entries k s.ended c.take.ensures.same
    c.in_ok-take.ensures.moves)

pub returns-then-not-branch-clause-dry : goal.returns-then-not-branch-clause-dry
returns-then-not-branch-clause-dry g c =
    let none = c.in_ok-take.ensures.none (search rules) in
    let D : BusNode → Type 0 = λ s. g.E.BusEnd.dry c.take.new.end (suc s.ended) in
    subst D (sym none.1) none.0

pub loop-preserved : goal.loop-preserved
loop-preserved g c =
    let E = g.E.BusEnd in let s = c.loop.self in let met = g.met.E.BusEnd in
    let j = c.args.self.now.journal.entries in let k = c.take.new.self.journal.entries in
    let inv = c.loop.invariant in
    let took = c.in_ok-take.ensures.some (search rules) in record {
      ready = c.in_ok-take.ensures.ready;
      stays = stays g (goal.at.loop-preserved g c).After-take;
      goes = goes_trans E.same E.stands met.same_trans c.args.end.now c.loop.end c.take.new.end j s.journal.entries
          k inv.goes (goes_one E.same E.stands c.loop.end c.take.new.end s.journal.entries k s.ended
          c.take.ensures.same c.in_ok-take.ensures.moves);
      items = items_push j s.journal.entries k took.0 took.1
          (took.3 ∙ ap suc (sym inv.ready.sound.reads.stopped)) took.4 inv.items;
      within = within g (goal.at.loop-preserved g c).After-take c.in_ok-take.ensures.within;
      untold = takes_one c.args.self.now s c.take.new.self (c.in_ok-take.ensures.untold (search rules)) took.0 took.1
          inv.untold;
    }

pub returns-in_err-take-clause-refused : goal.returns-in_err-take-clause-refused
returns-in_err-take-clause-refused g c =
    let E = g.E.BusEnd in let s = c.loop.self in let inv = c.loop.invariant in
    let is : c.from_residual.result ≡ Err c.in_err-take.field-0.0 = search rules in
    let P : _ → Type 0 = λ f. RefusesItem E c.args.self.now.journal.room c.args.self.now.journal.entries
    c.take.new.self.journal.entries c.args.end.now c.take.new.end (link_of c.args.self.now.ledger).node f in
    err_is P c.from_residual.result c.in_err-take.field-0.0 is
    (refuses_here E g.met.E.BusEnd.same_links c.args.self.now.journal.entries s c.take.new.self c.args.end.now
    c.loop.end
    c.take.new.end c.args.self.now.journal.room (link_of c.args.self.now.ledger).node c.in_err-take.field-0.0
    inv.ready.sound inv.stays.node inv.stays.room inv.items inv.within inv.goes c.in_err-take.ensures.refused)
