use Rattle.std.proofs.Common.{◌≡◌, ◌+◌, ℕ, true, false, List, length, rules, arith, refl, sym, ap, ◌∙◌, subst, inl, inr}
use Rattle.std.specs.Prelude.{◌||◌, Err, slice_set, slice_index_or}
use Rattle.std.proofs.lemmas.Bool.{cases_Bool, cases_lt, or_parts}
use Rattle.sja_bus.specs.Inside.RunningOn.{BusNodeIdle, SomeTold}
use Rattle.std.proofs.Math.ListN.{length-set}
use Rattle.std.proofs.lemmas.List.{get_or-set_other as set_else, get_or-set_same as set_here}
use Rattle.lemmas.specs.Related.{EachRelated}
use Rattle.sja_bus.specs.declared.bus_node.BusNode.{BusNode}
use Rattle.sja_bus.specs.UntilTold.{IsLastTurn}
use Rattle.sja_bus.specs.Inside.Rows.{BusNodeTurns, seen_by}
use Rattle.sja_bus.specs.Inside.Underway.{BreaksUnderway, IsUnderway}
use Rattle.sja_bus.proofs.ItemsTaken.BreakingBusNodes.{breaks_bus_node}
use Rattle.lemmas.proofs.Related.{each_refl, each_trans}
use Rattle.lemmas.proofs.Results.{err_is}
use Rattle.sja_bus.proofs.AllNodes.Many.{ready_one, sames_one}
use Rattle.sja_bus.proofs.AllNodes.Rows.{has_end, stay_on_bus}
use Rattle.sja_bus.proofs.AllNodes.Running.{seen_is}
use Rattle.sja_bus.proofs.AllNodes.Underway.{underway_one}
use Rattle.sja_bus.proofs.AllNodes.Telling.{idle_on}
use Rattle.sja_bus.proofs.ItemsTaken.Refusing.{rooms_one}
use Rattle.sja_bus.proofs.all_nodes.tell_from.Goals.{After-sample_and_tell, In_ok-one, In_ok-others}
use Rattle.sja_bus.proofs.all_nodes.tell_from.Goals as goal

pub bounds-links-first : goal.bounds-links-first
bounds-links-first g c = omega (arith, c.requires.few, c.requires.on_bus.ends.count)

pub sample_and_tell-requires-clause-at : goal.sample_and_tell-requires-clause-at
sample_and_tell-requires-clause-at g c =
    let h = c.requires.on_bus in
    has_end g.E.BusEnd.node g.E.BusEnd.same g.met.E.BusEnd.same_node (length c.args.bus_nodes.now) c.args.bus_nodes.now
    c.args.links.now c.args.links.now c.args.first c.index-bus_nodes-first.result c.index-links-first.result refl
    c.requires.few (each_refl g.E.BusEnd.same g.met.E.BusEnd.same_refl c.args.links.now) h.ends h.ready

-- the ends after the bit of the first, each the same one still
abbrev links_now : (g : _) (c : After-sample_and_tell g) → List g.row.E.Denot
links_now g c = slice_set c.args.links.now c.args.first c.sample_and_tell.new.end

first_same : (g : _) (c : After-sample_and_tell g) → EachRelated g.E.BusEnd.same c.args.links.now (links_now g c)
first_same g c =
    let h = c.requires.on_bus in
    sames_one g.E.BusEnd.same g.met.E.BusEnd.same_refl g.met.E.BusEnd.same_trans c.args.links.now c.args.links.now
    c.args.first c.index-links-first.result c.sample_and_tell.new.end (omega (arith, c.requires.few, h.ends.count))
    (each_refl g.E.BusEnd.same g.met.E.BusEnd.same_refl c.args.links.now) c.sample_and_tell.ensures.keeps.stays.is_same

pub sample_from-requires : goal.sample_from-requires
sample_from-requires g c =
    let at = (goal.at.sample_from-requires g c).After-sample_and_tell in
    let h = c.requires.on_bus in let keeps = c.sample_and_tell.ensures.keeps in let bus_nodes = c.args.bus_nodes.now in
    let k = c.args.first in let s = c.index-bus_nodes-first.result in let new = c.sample_and_tell.new.self in
    let ports = g.B.Board.ports in let had = c.in_ok-one.ensures.had in record {
      on_bus = stay_on_bus g.E.BusEnd.node g.E.BusEnd.same g.met.E.BusEnd.same_node bus_nodes
          (slice_set bus_nodes k new)
          c.args.links.now (links_now g at) (ports c.args.board.now) (ports c.sample_and_tell.new.board)
          (length-set bus_nodes k new) (first_same g at) keeps.ports
          (ready_one bus_nodes k new c.requires.few h.ready
          (record { ready = had.ready; own = keeps.stays.node ∙ (h.ready k s c.requires.few).own })) h;
    }

pub returns-clause-sames : goal.returns-clause-sames
returns-clause-sames g c =
    let at = (goal.at.returns-clause-sames g c).After-sample_and_tell in
    each_trans g.E.BusEnd.same g.met.E.BusEnd.same_trans c.args.links.now (links_now g at) c.sample_from.new.links
    (first_same g at) c.sample_from.ensures.sames

pub returns-clause-board : goal.returns-clause-board
returns-clause-board g c =
    let k = c.args.first in let here = c.requires.few in
    let n = (c.requires.on_bus.ready k c.index-bus_nodes-first.result here).own in
    let set = length-set c.args.bus_nodes.now k c.sample_and_tell.new.self in
    let kept = c.sample_from.ensures.board in (
      kept.0 ∙ c.sample_and_tell.ensures.keeps.ports,
      λ m far. g.met.B.Board.kept_trans c.args.board.now c.sample_and_tell.new.board c.sample_from.new.board m
          (c.sample_and_tell.ensures.keeps.others m (λ e. omega (arith, e, n, far, here)))
          (kept.1 m (omega (arith, far, set))),
    )

-- where that of the first was, and where that of another one was
first_told : (g : _) (c : In_ok-others g) → c.in_ok-one.one ≡ true →
    SomeTold (g.B.Board.told c.args.board.now c.sample_from.new.board) c.sample_from.new.bus_nodes
first_told g c was_told =
    let B = g.B.Board in let met = g.met.B.Board in let k = c.args.first in let s = c.index-bus_nodes-first.result in
    let here = c.requires.few in let bus_nodes = c.args.bus_nodes.now in let new = c.sample_and_tell.new.self in
    let a = c.args.board.now in let b = c.sample_and_tell.new.board in let z = c.sample_from.new.board in
    let n = (c.requires.on_bus.ready k s here).own in
    let set = length-set bus_nodes k new in let count = c.sample_from.auto.bus_nodes in
    let last = c.in_ok-one.ensures.had.yes was_told (c.requires.told k s (omega arith) here) in
    let before = c.in_ok-others.ensures.before in
    let T : ℕ → Type 0 = λ m. B.told a b m last.0 in let P : BusNode →
    Type 0 = λ x. IsLastTurn x.journal.entries last.0 in
    record {
      node = k;
      turn = last.0;
      few = omega (arith, here, set, count);
      told = met.told_first a b z k last.0 (subst T n last.1) (before k (omega arith)).0;
      last = λ x. subst P (sym ((before k (omega arith)).1 x ∙ set_here bus_nodes k new x here)) last.2;
    }

others_told : (g : _) (c : In_ok-others g) → c.in_ok-one.one ≡ false → c.in_ok-others.others ≡ true →
    SomeTold (g.B.Board.told c.args.board.now c.sample_from.new.board) c.sample_from.new.bus_nodes
others_told g c passed others =
    let k = c.args.first in let bus_nodes = c.args.bus_nodes.now in let new = c.sample_and_tell.new.self in
    let set = length-set bus_nodes k new in
    let P : _ → Type 0 = λ x. SomeTold (g.B.Board.told x c.sample_from.new.board) c.sample_from.new.bus_nodes in
    subst P (c.in_ok-one.ensures.had.no passed).0 (c.in_ok-others.ensures.told others (λ m s from few.
    ap (λ (x : BusNode). x.untold) (set_else bus_nodes k m new s (λ e. omega (arith, e, from)))
    ∙ c.requires.told m s (omega (arith, from)) (omega (arith, few, set))))

pub returns-clause-told : goal.returns-clause-told
returns-clause-told g c = λ yes.
    let at = (goal.at.returns-clause-told g c).In_ok-others in
    elim (cases_Bool c.in_ok-one.one) [
      | inl told ↦ first_told g at told
      | inr passed ↦
          others_told g at passed (subst (λ b. (b || c.in_ok-others.others) ≡ true) passed yes)
    ]

pub returns-clause-idle : goal.returns-clause-idle
returns-clause-idle g c = λ no.
    let k = c.args.first in let s = c.index-bus_nodes-first.result in let bus_nodes = c.args.bus_nodes.now in
    let new = c.sample_and_tell.new.self in let after = c.sample_from.new.bus_nodes in let struck = c.args.struck in
    let level = c.args.level in let here = c.requires.few in let set = length-set bus_nodes k new in
    let none = or_parts c.in_ok-one.one c.in_ok-others.others no in
    let did = c.in_ok-one.ensures.had.no none.0 in let others = c.in_ok-others.ensures.idle none.1 in
    let sees : c.seen-sees.result ≡ seen_by struck level k = c.seen-sees.ensures
    ∙ seen_is c.has.result struck level k c.has.ensures in
    let first = idle_on k k struck level c.seen-sees.result bus_nodes bus_nodes s new here refl sees refl did.1
    (λ m t from low few. absurd (omega (arith, from, low))) in (
      others.0 ∙ did.0,
      λ m t from few. elim (cases_lt m (k + 1)) [
        | inl low ↦
            let N : BusNode → Type 0 = λ x. BusNodeIdle struck level m (slice_index_or bus_nodes m t) x in
            subst N (sym ((c.in_ok-others.ensures.before m low).1 t)) (first m t from low few)
        | inr far ↦
            let O : BusNode → Type 0 = λ x. BusNodeIdle struck level m x (slice_index_or after m t) in
            subst O (set_else bus_nodes k m new t (λ e. omega (arith, e, far)))
            (others.1 m t far (omega (arith, few, set)))
      ],
    )

pub returns-clause-before : goal.returns-clause-before
returns-clause-before g c = λ m s low.
    (c.in_ok-others.ensures.before m (omega (arith, low))).1 s
    ∙ set_else c.args.bus_nodes.now c.args.first m c.sample_and_tell.new.self s (λ e. omega (arith, e, low))

-- the first of them had its bit
first_had : (g : _) (c : In_ok-one g) (before : List BusNode) (given : List _) (was : _) →
    IsUnderway g.E.BusEnd.same g.E.BusEnd.stands g.B.Board.ports g.B.Board.told g.B.Board.kept c.args.struck
    c.args.level before given was c.args.first c.args.bus_nodes.now c.args.links.now c.args.board.now →
    IsUnderway g.E.BusEnd.same g.E.BusEnd.stands g.B.Board.ports g.B.Board.told g.B.Board.kept c.args.struck
    c.args.level before given was (c.args.first + 1)
    (slice_set c.args.bus_nodes.now c.args.first c.sample_and_tell.new.self)
    (slice_set c.args.links.now c.args.first c.sample_and_tell.new.end) c.sample_and_tell.new.board
first_had g c before given was u =
    let E = g.E.BusEnd in let B = g.B.Board in let met = g.met.B.Board in let did = c.in_ok-one.ensures in
    let new = c.sample_and_tell.new.self in let a = c.args.board.now in let b = c.sample_and_tell.new.board in
    let links = c.args.links.now in
    let sees : c.seen-sees.result ≡ seen_by c.args.struck c.args.level c.args.first = c.seen-sees.ensures
    ∙ seen_is c.has.result c.args.struck c.args.level c.args.first c.has.ensures in
    underway_one E B g.met.E.BusEnd.same_refl g.met.E.BusEnd.same_trans met.kept_trans met.told_first met.told_last
    c.args.struck c.args.level c.seen-sees.result before c.args.bus_nodes.now given links was a b c.args.first
    c.index-bus_nodes-first.result new c.index-links-first.result c.sample_and_tell.new.end c.requires.few
    (omega (arith, c.requires.few, c.requires.on_bus.ends.count)) sees did.keeps did.had u

pub returns-clause-row : goal.returns-clause-row
returns-clause-row g c =
    let had = first_had g (goal.at.returns-clause-row g c).In_ok-one in
    λ before given was u. c.in_ok-others.ensures.row before given was (had before given was u)

pub returns-in_err-others-clause-broken : goal.returns-in_err-others-clause-broken
returns-in_err-others-clause-broken g c =
    let had = first_had g (goal.at.returns-in_err-others-clause-broken g c).In_ok-one in
    let f = c.in_err-others.field-0.0 in
    let is : c.from_residual-in_err-others.result ≡ Err f = search rules in
    let P : _ → Type 0 = λ x. BreaksUnderway g.E.BusEnd g.B.Board c.args.struck c.args.level c.args.first
    c.args.bus_nodes.now c.sample_from.new.bus_nodes c.args.links.now c.args.board.now x in
    err_is P c.from_residual-in_err-others.result f is
    (λ before given was u. c.in_err-others.ensures.broken before given was (had before given was u))

pub returns-in_err-others-clause-sames : goal.returns-in_err-others-clause-sames
returns-in_err-others-clause-sames g c =
    let at = (goal.at.returns-in_err-others-clause-sames g c).After-sample_and_tell in
    each_trans g.E.BusEnd.same g.met.E.BusEnd.same_trans c.args.links.now (links_now g at) c.sample_from.new.links
    (first_same g at) c.sample_from.ensures.sames

pub returns-in_err-others-clause-board : goal.returns-in_err-others-clause-board
returns-in_err-others-clause-board g c =
    let k = c.args.first in let here = c.requires.few in
    let n = (c.requires.on_bus.ready k c.index-bus_nodes-first.result here).own in
    let set = length-set c.args.bus_nodes.now k c.sample_and_tell.new.self in
    let kept = c.sample_from.ensures.board in (
      kept.0 ∙ c.sample_and_tell.ensures.keeps.ports,
      λ m far. g.met.B.Board.kept_trans c.args.board.now c.sample_and_tell.new.board c.sample_from.new.board m
          (c.sample_and_tell.ensures.keeps.others m (λ e. omega (arith, e, n, far, here)))
          (kept.1 m (omega (arith, far, set))),
    )

pub returns-in_err-one-clause-sames : goal.returns-in_err-one-clause-sames
returns-in_err-one-clause-sames g c =
    first_same g (goal.at.returns-in_err-one-clause-sames g c).After-sample_and_tell

pub returns-in_err-one-clause-board : goal.returns-in_err-one-clause-board
returns-in_err-one-clause-board g c =
    let here = c.requires.few in let keeps = c.sample_and_tell.ensures.keeps in
    let n = (c.requires.on_bus.ready c.args.first c.index-bus_nodes-first.result here).own in
    (keeps.ports, λ m far. keeps.others m (λ e. omega (arith, e, n, far, here)))

pub returns-in_err-one-clause-broken : goal.returns-in_err-one-clause-broken
returns-in_err-one-clause-broken g c =
    let E = g.E.BusEnd in let D = g.B.Board in let k = c.args.first in let s = c.index-bus_nodes-first.result in
    let f = c.in_err-one.field-0.0 in let new = c.sample_and_tell.new.self in
    let bus_nodes = c.args.bus_nodes.now in let near = c.requires.few in
    let is : c.from_residual.result ≡ Err f = search rules in
    let P : _ → Type 0 = λ x. BreaksUnderway E D c.args.struck c.args.level k bus_nodes (slice_set bus_nodes k new)
    c.args.links.now c.args.board.now x in
    err_is P c.from_residual.result f is
    (λ before given start u. let count = u.count in
    breaks_bus_node E g.met.E.BusEnd.same_trans (BusNodeTurns (D.told start c.args.board.now)
    (D.kept start c.args.board.now) c.args.struck c.args.level) before bus_nodes given c.args.links.now k s new
    c.index-links-first.result f (omega (arith, near, count)) (omega (arith, near, c.requires.on_bus.ends.count))
    u.count u.ready u.goes u.done c.in_err-one.ensures.broken)

-- each journal has the room that it had
pub returns-clause-rooms : goal.returns-clause-rooms
returns-clause-rooms g c = λ n h.
    c.sample_from.ensures.rooms n (rooms_one n c.args.bus_nodes.now c.args.first c.index-bus_nodes-first.result
    c.sample_and_tell.new.self c.requires.few c.sample_and_tell.ensures.keeps.stays.room h)

pub returns-in_err-others-clause-rooms : goal.returns-in_err-others-clause-rooms
returns-in_err-others-clause-rooms g c = λ n h.
    c.sample_from.ensures.rooms n (rooms_one n c.args.bus_nodes.now c.args.first c.index-bus_nodes-first.result
    c.sample_and_tell.new.self c.requires.few c.sample_and_tell.ensures.keeps.stays.room h)

pub returns-in_err-one-clause-rooms : goal.returns-in_err-one-clause-rooms
returns-in_err-one-clause-rooms g c = λ n h.
    rooms_one n c.args.bus_nodes.now c.args.first c.index-bus_nodes-first.result c.sample_and_tell.new.self
    c.requires.few
    c.sample_and_tell.ensures.keeps.stays.room h
