use Rattle.std.proofs.Common.{arith, rules, ◌≡◌, ◌<◌, ◌≤◌, ◌+◌, ℕ, Err, suc, subst}
use Rattle.sja_journal.specs.declared.bus_fault.BusFault.{BusFault}
use Rattle.sja_link.specs.declared.link_id.LinkId.{LinkId}
use Rattle.sja_journal.specs.Lists.{OthersStand, Carries, with_taken}
use Rattle.sja_bus_rules.specs.Reasons.{IsRefusedFor}
use Rattle.sja_bus.specs.Inside.Taking.{RefusesHere}
use Rattle.sja_journal.specs.declared.up.Up.TheVariants.{Credit}
use Rattle.sja_journal.specs.declared.entry.Entry.TheVariants.{Up as Item}
use Rattle.sja_link.specs.BusLedgers.{free_in}
use Rattle.sja_journal.proofs.Growing.Begins.{begins_item, begins_none}
use Rattle.sja_link.proofs.Growing.Moving.{moves_push}
use Rattle.lemmas.proofs.Results.{err_is}
use Rattle.sja_bus.proofs.bus_node.BusNode.take.Goals as goal

pub returns-in_ok-note-in-Ok-Some-clause-moves : goal.returns-in_ok-note-in-Ok-Some-clause-moves
returns-in_ok-note-in-Ok-Some-clause-moves g c =
    let was = c.args.self.now in let told = c.in_ok-note-in-Ok-Some.ensures in
    let took = rw c.in-Ok-Some.field-0-is at c.in-Ok-Some.ensures.item in
    let own = c.requires.at.ready.bus_node.own in
    let T : ℕ → Type 0 = λ a. Carries g.E.BusEnd.stands a c.args.end.now c.collect.new.end
    (λ l. with_taken l c.in-Ok-Some.item) in
    let O : ℕ → Type 0 = λ a. OthersStand g.E.BusEnd.stands a c.args.end.now c.collect.new.end in
    rw told.takes.entered (moves_push g.E.BusEnd.stands c.args.end.now c.collect.new.end was.journal.entries
    (Item c.in-Ok-Some.item) (suc was.ended) told.takes.stands (subst O own c.collect.ensures.others)
    (subst T own took))

pub returns-in_ok-note-in-Ok-Some-clause-within : goal.returns-in_ok-note-in-Ok-Some-clause-within
returns-in_ok-note-in-Ok-Some-clause-within g c =
    let was = c.args.self.now in let takes = c.in_ok-note-in-Ok-Some.ensures.takes in
    let has = rw c.in-Ok-Some.field-0-is at c.in-Ok-Some.ensures.has in
    let links = g.met.E.BusEnd.same_links c.args.end.now c.collect.new.end c.collect.ensures.same in
    let own = c.requires.at.ready.bus_node.own in let at = takes.stands in
    rw takes.entered (begins_item (g.E.BusEnd.links c.args.end.now) was.journal.entries c.in-Ok-Some.item
    (omega (arith, has, links, own, at)))

pub returns-in_ok-note-in-Ok-Some-clause-some : goal.returns-in_ok-note-in-Ok-Some-clause-some
returns-in_ok-note-in-Ok-Some-clause-some g c = λ e. (
  c.in-Ok-Some.item,
  c.in_ok-note-in-Ok-Some.ensures.takes.entered,
  c.in_ok-note-in-Ok-Some.ensures.takes.fits,
  c.in_ok-note-in-Ok-Some.ensures.takes.stands,
  c.in_ok-note-in-Ok-Some.ensures.takes.due,
)

pub returns-in_err-note-in-Ok-Some-clause-refused : goal.returns-in_err-note-in-Ok-Some-clause-refused
returns-in_err-note-in-Ok-Some-clause-refused g c =
    let took = rw c.in-Ok-Some.field-0-is at c.in-Ok-Some.ensures.item in
    let f = c.in_err-note-in-Ok-Some.field-0.0 in
    let P : BusFault → Type 0 = λ x. RefusesHere g.E.BusEnd c.args.end.now c.collect.new.end
    c.args.self.now c.note.new.self x in
    let is : c.from_residual.result ≡ Err f = search rules in
    let was = c.args.self.now in let r = c.in_err-note-in-Ok-Some.ensures.refused in
    let Q : LinkId → Type 0 = λ l. IsRefusedFor l.node was.journal.room was.journal.entries c.in-Ok-Some.item f in
    let own = c.requires.at.ready.bus_node.own in
    let T : ℕ → Type 0 = λ a. Carries g.E.BusEnd.stands a c.args.end.now c.collect.new.end
    (λ l. with_taken l c.in-Ok-Some.item) in
    let O : ℕ → Type 0 = λ a. OthersStand g.E.BusEnd.stands a c.args.end.now c.collect.new.end in
    let here : P f = record {
      item = c.in-Ok-Some.item;
      refuses =
          (r.0, subst Q c.in-Ok-Some.ensures.id r.1);
      few = let has = rw c.in-Ok-Some.field-0-is at c.in-Ok-Some.ensures.has in
          let links = g.met.E.BusEnd.same_links c.args.end.now c.collect.new.end c.collect.ensures.same in
          omega (arith, has, links, own);
      shown = subst T own took;
      others = subst O own c.collect.ensures.others;
    } in
    err_is P c.from_residual.result f is here

pub returns-in-Err-clause-untold : goal.returns-in-Err-clause-untold
returns-in-Err-clause-untold g c = λ taken. grind (arith, taken)

-- `lifts` proves nothing here: by it a wrong body is refused with values
pub returns-in-Err-clause-refused : goal.returns-in-Err-clause-refused
returns-in-Err-clause-refused g c =
    let bytes = c.in-Err.field-0.0 in let bad = c.in-Err.ensures.bad.1 in
    let lifts : 3 ≤ bytes → bytes ≤ 13 → 64 < free_in c.args.self.now.ledger + bytes =
    λ low high. omega (arith, low, high, bad) in
    let own = c.requires.at.ready.bus_node.own in
    let R : ℕ → Type 0 = λ a. Carries g.E.BusEnd.stands a c.args.end.now c.collect.new.end
    (λ l. with_taken l (Credit bytes)) in
    let O : ℕ → Type 0 = λ a. OthersStand g.E.BusEnd.stands a c.args.end.now c.collect.new.end in
    let links = g.met.E.BusEnd.same_links c.args.end.now c.collect.new.end c.collect.ensures.same in
    let has = c.in-Err.ensures.has_bad in
    let few : suc c.args.self.now.ended ≤ g.E.BusEnd.links c.args.end.now = omega (arith, has, links, own) in
    let shown = subst R own c.in-Err.ensures.bad.2 in let others = subst O own c.collect.ensures.others in
    search rules
