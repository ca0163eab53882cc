use Rattle.std.proofs.Common.{◌≡◌, ℕ, ◌<◌, ◌≤◌, length, arith, rules, sym, subst, inl, inr}
use Rattle.std.specs.Prelude.{◌⊎◌, Err, slice_index_or, slice_set}
use Rattle.sja_bus.specs.Inside.Rows.{BusNodeOpens, BusNodeOpensUntold}
use Rattle.sja_bus.proofs.AllNodes.Begins.{BusNodeOpensWithin, begins_at}
use Rattle.sja_bus.specs.Inside.Refusing.{BusNodeRefuses, BusNodeFull}
use Rattle.sja_bus.proofs.AllNodes.Many.{done_all, sames_one}
use Rattle.sja_bus.proofs.AllNodes.Rows.{has_end, taken_none, taken_one}
use Rattle.sja_bus.proofs.ItemsTaken.Refusing.{refuses_bus_node, rooms_one}
use Rattle.sja_bus.proofs.ItemsTaken.BreakingBusNodes.{full_bus_node}
use Rattle.lemmas.proofs.Results.{err_is}
use Rattle.lemmas.proofs.Numbers.{earlier_or_last}
use Rattle.sja_bus.proofs.all_nodes.open_all.Goals as goal

pub loop-k-init : goal.loop-k-init
loop-k-init g c = record {
  taken = taken_none g.E.BusEnd.same g.E.BusEnd.stands g.E.BusEnd.dry g.met.E.BusEnd.same_refl
      (BusNodeOpensWithin (g.B.Board.orders_are c.args.board.now) g.E.BusEnd.links c.args.links.now) BusNodeOpensUntold
      c.args.bus_nodes.now c.args.links.now c.requires.ready;
  facts = λ m none. absurd (omega (arith, none));
}

pub bounds-links-k : goal.bounds-links-k
bounds-links-k g c =
    let here : c.loop-k.k < length c.loop-k.bus_nodes = search rules in
    omega (arith, here, c.loop-k.auto.bus_nodes, c.loop-k.auto.links, c.requires.ends.count)

pub open_bit-requires-clause-at : goal.open_bit-requires-clause-at
open_bit-requires-clause-at g c =
    has_end g.E.BusEnd.node g.E.BusEnd.same g.met.E.BusEnd.same_node (length c.args.bus_nodes.now) c.loop-k.bus_nodes
    c.args.links.now c.loop-k.links c.loop-k.k c.index-bus_nodes-k.result c.index-links-k.result c.loop-k.auto.bus_nodes
    (search rules) c.loop-k.invariant.taken.goes.sames c.requires.ends c.loop-k.invariant.taken.ready

pub returns-in_err-open_bit-clause-sames : goal.returns-in_err-open_bit-clause-sames
returns-in_err-open_bit-clause-sames g c =
    let here : c.loop-k.k < length c.loop-k.bus_nodes = search rules in
    sames_one g.E.BusEnd.same g.met.E.BusEnd.same_refl g.met.E.BusEnd.same_trans c.args.links.now c.loop-k.links
    c.loop-k.k c.index-links-k.result c.open_bit.new.end
    (omega (arith, here, c.loop-k.auto.bus_nodes, c.loop-k.auto.links, c.requires.ends.count))
    c.loop-k.invariant.taken.goes.sames c.open_bit.ensures.stays.is_same

pub loop-k-preserved : goal.loop-k-preserved
loop-k-preserved g c =
    let E = g.E.BusEnd in let met = g.met.E.BusEnd in let k = c.loop-k.k in let s = c.index-bus_nodes-k.result in
    let new = c.open_bit.new.self in let did = c.in_ok-open_bit.ensures in
    let here : k < length c.loop-k.bus_nodes = search rules in
    let O = BusNodeOpens (g.B.Board.orders_are c.args.board.now) in
    let P : ℕ → Type 0 = λ m. O m (slice_index_or c.loop-k.bus_nodes k s) new in
    let opens = subst P (c.loop-k.invariant.taken.ready k s here).own did.opens in
    let F : ℕ → Type 0 = λ m. g.B.Board.facts c.args.board.now m in
    let there : k < length c.loop-k.links =
    omega (arith, here, c.loop-k.auto.bus_nodes, c.loop-k.auto.links, c.requires.ends.count) in
    let begins = begins_at E.same E.links met.same_links c.args.links.now c.loop-k.links k c.index-links-k.result
    (slice_index_or c.loop-k.bus_nodes k s) new c.loop-k.invariant.taken.goes.sames there did.within in
    let W = BusNodeOpensWithin (g.B.Board.orders_are c.args.board.now) E.links c.args.links.now in
    let fact : F k = subst F (c.loop-k.invariant.taken.ready k s here).own did.facts in
    record {
      taken = taken_one E.same E.stands E.dry met.same_refl met.same_trans W BusNodeOpensUntold c.args.bus_nodes.now
          c.loop-k.bus_nodes c.args.links.now c.loop-k.links k s new c.index-links-k.result c.open_bit.new.end here
          there
          c.loop-k.auto.bus_nodes did.stays did.ready did.goes did.dry (opens, begins) did.untold
          c.loop-k.invariant.taken;
      facts = λ m less. elim (earlier_or_last m k less) [
        | inl before ↦ c.loop-k.invariant.facts m before
        | inr now ↦ subst F (sym now) fact
      ];
    }

pub returns-clause-opens : goal.returns-clause-opens
returns-clause-opens g c = λ m s few.
    let W = BusNodeOpensWithin (g.B.Board.orders_are c.args.board.now) g.E.BusEnd.links c.args.links.now in
    (done_all W c.loop-k.k c.args.bus_nodes.now c.loop-k.bus_nodes (search rules) c.loop-k.invariant.taken.done m s
    few).0

pub returns-clause-within : goal.returns-clause-within
returns-clause-within g c = λ m s few.
    let W = BusNodeOpensWithin (g.B.Board.orders_are c.args.board.now) g.E.BusEnd.links c.args.links.now in
    (done_all W c.loop-k.k c.args.bus_nodes.now c.loop-k.bus_nodes (search rules) c.loop-k.invariant.taken.done m s
    few).1

pub returns-clause-rooms : goal.returns-clause-rooms
returns-clause-rooms g c = c.loop-k.invariant.taken.rooms

pub returns-clause-untold : goal.returns-clause-untold
returns-clause-untold g c = done_all BusNodeOpensUntold c.loop-k.k c.args.bus_nodes.now c.loop-k.bus_nodes
    (search rules)
    c.loop-k.invariant.taken.untold

pub returns-in_err-open_bit-clause-stops : goal.returns-in_err-open_bit-clause-stops
returns-in_err-open_bit-clause-stops g c =
    let E = g.E.BusEnd in let k = c.loop-k.k in let s = c.index-bus_nodes-k.result in let f =
    c.in_err-open_bit.field-0.0 in
    let before = c.args.bus_nodes.now in let inv = c.loop-k.invariant.taken in let new = c.open_bit.new.self in
    let was : k < length before = search rules in
    let O = BusNodeOpensWithin (g.B.Board.orders_are c.args.board.now) E.links c.args.links.now in
    let met = g.met.E.BusEnd in
    let is : c.from_residual.result ≡ Err f = search rules in
    let links = slice_set c.loop-k.links k c.open_bit.new.end in
    let there : k < length c.loop-k.links = omega (arith, was, c.loop-k.auto.links, c.requires.ends.count) in
    let P : _ → Type 0 = λ x. BusNodeRefuses E before (slice_set c.loop-k.bus_nodes k new) c.args.links.now links x
    ⊎ BusNodeFull E (g.B.Board.orders_are c.args.board.now) before (slice_set c.loop-k.bus_nodes k new) c.args.links.now
    links x in
    err_is P c.from_residual.result f is (elim c.in_err-open_bit.ensures.stops [
      | inl refused ↦ inl (refuses_bus_node E met.same_links O before c.loop-k.bus_nodes c.args.links.now
          c.loop-k.links k s new
          c.index-links-k.result c.open_bit.new.end f was there c.loop-k.auto.bus_nodes inv.ready inv.goes inv.done
          refused)
      | inr full ↦ inr (full_bus_node E met.same_links (g.B.Board.orders_are c.args.board.now) O before
          c.loop-k.bus_nodes
          c.args.links.now c.loop-k.links k s new c.index-links-k.result c.open_bit.new.end f was there
          c.loop-k.auto.bus_nodes inv.ready inv.goes inv.done full)
    ])

pub returns-clause-facts : goal.returns-clause-facts
returns-clause-facts g c = λ k few.
    let all : length c.args.bus_nodes.now ≤ c.loop-k.k = search rules in
    c.loop-k.invariant.facts k (omega (arith, few, all))

pub returns-in_err-open_bit-clause-rooms : goal.returns-in_err-open_bit-clause-rooms
returns-in_err-open_bit-clause-rooms g c = λ n h.
    let here : c.loop-k.k < length c.loop-k.bus_nodes = search rules in
    rooms_one n c.loop-k.bus_nodes c.loop-k.k c.index-bus_nodes-k.result c.open_bit.new.self here
    c.open_bit.ensures.stays.room
    (c.loop-k.invariant.taken.rooms n h)
