use Rattle.std.proofs.Common.{◌≡◌, ◌<◌, ◌≤◌, ℕ, length, rules, arith, refl, ap, ◌∙◌, subst, inl, inr}
use Rattle.std.proofs.lemmas.Bool.{or_cases, or_parts}
use Rattle.sja_regs.specs.declared.bus_turn.BusTurn.{BusTurn}
use Rattle.sja_bus.specs.declared.bus_node.BusNode.{BusNode}
use Rattle.sja_bus.specs.UntilTold.{IsLastTurn}
use Rattle.sja_bus.proofs.AllNodes.Telling.{idle_on, told_here, told_still}
use Rattle.std.specs.Prelude.{Err, slice_set, slice_index_or}
use Rattle.std.proofs.lemmas.List.{get_or-set_other as set_else}
use Rattle.sja_bus.specs.Inside.Rows.{BusNodeTurns, seen_by}
use Rattle.sja_bus.specs.Inside.Underway.{BreaksUnderway}
use Rattle.sja_bus.proofs.ItemsTaken.BreakingBusNodes.{breaks_bus_node}
use Rattle.lemmas.proofs.Related.{each_refl}
use Rattle.lemmas.proofs.Results.{err_is}
use Rattle.sja_bus.proofs.AllNodes.Many.{ready_one, sames_one}
use Rattle.sja_bus.proofs.AllNodes.Rows.{has_end}
use Rattle.sja_bus.proofs.AllNodes.Running.{seen_is}
use Rattle.sja_bus.proofs.AllNodes.Underway.{underway_one}
use Rattle.sja_bus.proofs.ItemsTaken.Refusing.{rooms_one}
use Rattle.sja_bus.proofs.all_nodes.sample_from.Goals as goal

pub loop-k-init : goal.loop-k-init
loop-k-init g c = record {
  ready = c.requires.on_bus.ready;
  sames = each_refl g.E.BusEnd.same g.met.E.BusEnd.same_refl c.args.links.now;
  rooms = λ n h. h;
  ports = refl;
  others = λ m far. g.met.B.Board.kept_refl c.args.board.now m;
  before = λ m low. (g.met.B.Board.kept_refl c.args.board.now m, λ s. refl);
  rest = λ m far. (g.met.B.Board.kept_refl c.args.board.now m, λ s. refl);
  told = λ wrong. absurd cc;
  idle = λ none. (refl, λ m s from low few. absurd (omega (arith, from, low)));
  row = λ before given was u. u;
}

pub bounds-links-k : goal.bounds-links-k
bounds-links-k g c =
    let here : c.loop-k.k < length c.loop-k.bus_nodes = search rules in
    omega (arith, here, c.loop-k.auto.bus_nodes, c.loop-k.auto.links, c.requires.on_bus.ends.count)

pub sample-requires-clause-at : goal.sample-requires-clause-at
sample-requires-clause-at g c =
    has_end g.E.BusEnd.node g.E.BusEnd.same g.met.E.BusEnd.same_node (length c.args.bus_nodes.now) c.loop-k.bus_nodes
    c.args.links.now c.loop-k.links c.loop-k.k c.index-bus_nodes-k.result c.index-links-k.result c.loop-k.auto.bus_nodes
    (search rules) c.loop-k.invariant.sames c.requires.on_bus.ends c.loop-k.invariant.ready

pub loop-k-preserved : goal.loop-k-preserved
loop-k-preserved g c =
    let E = g.E.BusEnd in let B = g.B.Board in let met = g.met.B.Board in let k = c.loop-k.k in
    let had = c.in_ok-one.ensures.had in let keeps = c.sample.ensures.keeps in
    let here : k < length c.loop-k.bus_nodes = search rules in
    let was : k < length c.args.bus_nodes.now = search rules in
    let n = (c.loop-k.invariant.ready k c.index-bus_nodes-k.result here).own in
    let a = c.args.board.now in let b = c.loop-k.board in let z = c.sample.new.board in
    let s = slice_index_or c.loop-k.bus_nodes k c.index-bus_nodes-k.result in
    let one = c.in_ok-one.one in let new = c.sample.new.self in let inv = c.loop-k.invariant in
    let from : c.args.first ≤ k = search rules in let own = inv.rest k (omega arith) in
    let there : k < length c.loop-k.links = omega (arith, was, c.loop-k.auto.links, c.requires.on_bus.ends.count) in
    let T : ℕ → Type 0 = λ m. (turn : BusTurn) × B.told b z m turn × IsLastTurn new.journal.entries turn in
    let sees : c.seen-sees.result ≡ seen_by c.args.struck c.args.level k = c.seen-sees.ensures
    ∙ seen_is c.has.result c.args.struck c.args.level k c.has.ensures in
    record {
      ready = ready_one c.loop-k.bus_nodes k c.sample.new.self here c.loop-k.invariant.ready
          (record { ready = had.ready; own = keeps.stays.node ∙ n });
      sames = sames_one E.same g.met.E.BusEnd.same_refl g.met.E.BusEnd.same_trans c.args.links.now c.loop-k.links k
          c.index-links-k.result c.sample.new.end there c.loop-k.invariant.sames keeps.stays.is_same;
      rooms = λ n h. rooms_one n c.loop-k.bus_nodes k c.index-bus_nodes-k.result new here keeps.stays.room
          (inv.rooms n h);
      ports = keeps.ports ∙ c.loop-k.invariant.ports;
      others = λ m l. met.kept_trans a b z m (c.loop-k.invariant.others m l)
          (keeps.others m (λ e. omega (arith, e, n, l, was)));
      before = λ m low.
          let was = c.loop-k.invariant.before m low in let from : c.args.first ≤ k = search rules in (
            met.kept_trans a b z m was.0 (keeps.others m (λ e. omega (arith, e, n, low, from))),
            λ s. set_else c.loop-k.bus_nodes k m c.sample.new.self s (λ e. omega (arith, e, low, from)) ∙ was.1 s,
          );
      rest = λ m far. let was = inv.rest m (omega (arith, far)) in (
        met.kept_trans a b z m was.0 (keeps.others m (λ e. omega (arith, e, n, far))),
        λ s. set_else c.loop-k.bus_nodes k m new s (λ e. omega (arith, e, far)) ∙ was.1 s,
      );
      told = λ yes all. elim (or_cases c.loop-k.told one yes) [
        | inl earlier ↦ told_still B c.loop-k.bus_nodes k new a b z met.told_first
            (λ m ne. keeps.others m (λ e. ne (e ∙ n))) (inv.told earlier all)
        | inr now ↦ told_here B c.loop-k.bus_nodes k new a b z met.told_last here own.0 (subst T n (had.yes now
            (ap (λ (x : BusNode). x.untold) (own.1 c.index-bus_nodes-k.result) ∙ all k c.index-bus_nodes-k.result from
            was)))
      ];
      idle = λ no. let none = or_parts c.loop-k.told one no in let far = inv.idle none.0 in let did = had.no none.1 in (
        did.0 ∙ far.0,
        idle_on c.args.first k c.args.struck c.args.level c.seen-sees.result c.args.bus_nodes.now c.loop-k.bus_nodes
            c.index-bus_nodes-k.result new here c.loop-k.auto.bus_nodes sees (own.1 c.index-bus_nodes-k.result) did.1
            far.1,
      );
      row = λ before given then u.
          underway_one E B g.met.E.BusEnd.same_refl g.met.E.BusEnd.same_trans met.kept_trans met.told_first
          met.told_last c.args.struck c.args.level c.seen-sees.result before c.loop-k.bus_nodes given c.loop-k.links
          then b
          z k c.index-bus_nodes-k.result c.sample.new.self c.index-links-k.result c.sample.new.end here there sees
          keeps had
          (c.loop-k.invariant.row before given then u);
    }

pub returns-in_err-one-clause-sames : goal.returns-in_err-one-clause-sames
returns-in_err-one-clause-sames g c =
    let was : c.loop-k.k < length c.args.bus_nodes.now = search rules in
    sames_one g.E.BusEnd.same g.met.E.BusEnd.same_refl g.met.E.BusEnd.same_trans c.args.links.now c.loop-k.links
    c.loop-k.k c.index-links-k.result c.sample.new.end
    (omega (arith, was, c.loop-k.auto.links, c.requires.on_bus.ends.count)) c.loop-k.invariant.sames
    c.sample.ensures.keeps.stays.is_same

pub returns-in_err-one-clause-board : goal.returns-in_err-one-clause-board
returns-in_err-one-clause-board g c =
    let here : c.loop-k.k < length c.args.bus_nodes.now = search rules in
    let n = (c.loop-k.invariant.ready c.loop-k.k c.index-bus_nodes-k.result (search rules)).own in (
      c.sample.ensures.keeps.ports ∙ c.loop-k.invariant.ports,
      λ m far. g.met.B.Board.kept_trans c.args.board.now c.loop-k.board c.sample.new.board m
          (c.loop-k.invariant.others m far)
          (c.sample.ensures.keeps.others m (λ e. omega (arith, e, n, far, here))),
    )

pub returns-clause-board : goal.returns-clause-board
returns-clause-board g c = (c.loop-k.invariant.ports, c.loop-k.invariant.others)

pub returns-clause-before : goal.returns-clause-before
returns-clause-before g c = c.loop-k.invariant.before

pub returns-clause-told : goal.returns-clause-told
returns-clause-told g c = λ yes all. (c.loop-k.invariant.told yes all).some

pub returns-clause-idle : goal.returns-clause-idle
returns-clause-idle g c = λ no.
    let far = c.loop-k.invariant.idle no in let all : length c.args.bus_nodes.now ≤ c.loop-k.k = search rules in
    (far.0, λ m s from few. far.1 m s from (omega (arith, few, all)) few)

pub returns-clause-row : goal.returns-clause-row
returns-clause-row g c = λ before given was u. (c.loop-k.k, search rules, c.loop-k.invariant.row before given was u)

pub returns-in_err-one-clause-broken : goal.returns-in_err-one-clause-broken
returns-in_err-one-clause-broken g c =
    let E = g.E.BusEnd in let D = g.B.Board in let k = c.loop-k.k in let s = c.index-bus_nodes-k.result in let f =
    c.in_err-one.field-0.0 in
    let inv = c.loop-k.invariant in let new = c.sample.new.self in
    let near : k < length c.loop-k.bus_nodes = search rules in
    let is : c.from_residual.result ≡ Err f = search rules in
    let there : k < length c.loop-k.links =
    omega (arith, near, c.loop-k.auto.bus_nodes, c.loop-k.auto.links, c.requires.on_bus.ends.count) in
    let P : _ → Type 0 = λ x. BreaksUnderway E D c.args.struck c.args.level c.args.first c.args.bus_nodes.now
    (slice_set c.loop-k.bus_nodes k new) c.args.links.now c.args.board.now x in
    err_is P c.from_residual.result f is
    (λ before given start u.
    let i = inv.row before given start u in let count = i.count in
    breaks_bus_node E g.met.E.BusEnd.same_trans (BusNodeTurns (D.told start c.loop-k.board)
    (D.kept start c.loop-k.board)
    c.args.struck c.args.level) before c.loop-k.bus_nodes given c.loop-k.links k s new c.index-links-k.result f
    (omega (arith, near, count)) there i.count i.ready i.goes i.done c.in_err-one.ensures.broken)

pub returns-clause-rooms : goal.returns-clause-rooms
returns-clause-rooms g c = c.loop-k.invariant.rooms

pub returns-in_err-one-clause-rooms : goal.returns-in_err-one-clause-rooms
returns-in_err-one-clause-rooms g c = λ n h.
    let here : c.loop-k.k < length c.loop-k.bus_nodes = search rules in
    rooms_one n c.loop-k.bus_nodes c.loop-k.k c.index-bus_nodes-k.result c.sample.new.self here
    c.sample.ensures.keeps.stays.room (c.loop-k.invariant.rooms n h)
