use Rattle.std.proofs.Common.{◌≡◌, ℕ, ◌<◌, ◌≤◌, ◌∷◌, [], false, length, rules, arith, refl, sym, ap, ◌∙◌, subst}
use Rattle.std.proofs.Common.{inl, inr}
use Rattle.std.specs.Prelude.{Err, slice_index_or, slice_set}
use Rattle.std.proofs.Math.ListN.{length-set}
use Rattle.std.proofs.lemmas.List.{take_all, set-get_or, get_or-set_same as set_here}
use Rattle.lemmas.specs.Related.{EachRelated}
use Rattle.sja_journal.specs.Links.{AreEnds}
use Rattle.sja_bus.specs.declared.bus_node.BusNode.{BusNode}
use Rattle.can_levels.specs.BusLevel.{wired}
use Rattle.sja_bus.specs.Inside.Rows.{BusNodeTurns, seen_by, driven_by}
use Rattle.sja_bus.specs.Inside.Refusing.{BusNodeBreaks}
use Rattle.sja_bus.specs.Inside.RunningOn.{BusNodeIdle, SomeTold}
use Rattle.sja_bus.specs.Inside.Turning.{IsIdleBit}
use Rattle.sja_bus.specs.Inside.Underway.{IsUnderway}
use Rattle.sja_bus.proofs.AllNodes.Levels.{level_now}
use Rattle.sja_bus.proofs.AllNodes.Many.{done_all, done_none, done_one}
use Rattle.sja_bus.proofs.AllNodes.Running.{seen_is}
use Rattle.sja_bus.proofs.AtPorts.BusNodeBits.{had_quiet, keeps_quiet}
use Rattle.sja_bus.proofs.AllNodes.Underway.{underway_none, underway_still, underway_at}
use Rattle.sja_bus.proofs.AllNodes.Telling.{none_told}
use Rattle.sja_bus.proofs.AtPorts.TurnsTold.{idle_bit}
use Rattle.std.proofs.lemmas.Bool.{cases_lt}
use Rattle.can_levels.specs.declared.level.Level.{Level}
use Rattle.lemmas.proofs.Results.{err_is}
use Rattle.sja_bus.proofs.all_nodes.sample_all.Goals.{After-sample_quietly}
use Rattle.sja_bus.proofs.all_nodes.sample_all.Goals as goal

pub loop-k-init : goal.loop-k-init
loop-k-init g c =
    let E = g.E.BusEnd in let B = g.B.Board in record {
      row = underway_none E.same E.stands g.met.E.BusEnd.same_refl B.ports B.told B.kept g.met.B.Board.kept_refl
          c.args.struck c.args.level c.args.bus_nodes.now c.args.links.now c.args.board.now c.requires.on_bus.ready;
      links = refl;
      board = refl;
      idle = done_none (BusNodeIdle c.args.struck c.args.level) c.args.bus_nodes.now;
      level = refl;
    }

pub loop-k-preserved : goal.loop-k-preserved
loop-k-preserved g c =
    let E = g.E.BusEnd in let B = g.B.Board in let met = g.met.B.Board in let k = c.loop-k.k in
    let inv = c.loop-k.invariant in
    let s = c.index-bus_nodes-k.result in let a = c.args.board.now in let links = c.args.links.now in
    let here : k < length c.loop-k.bus_nodes = search rules in
    let was : k < length c.args.bus_nodes.now = search rules in
    let old = slice_index_or c.loop-k.bus_nodes k s in let new = c.sample_quietly.new.self in
    let quiet = c.sample_quietly.ensures.quiet (search rules) in
    let same_refl = g.met.E.BusEnd.same_refl in let same_trans = g.met.E.BusEnd.same_trans in
    let sees : c.seen-sees.result ≡ seen_by c.args.struck c.args.level k = c.seen-sees.ensures
    ∙ seen_is c.has.result c.args.struck c.args.level k c.has.ensures in record {
      row = underway_still E B same_refl same_trans met.kept_trans met.told_first met.told_last c.args.struck
          c.args.level c.seen-sees.result c.args.bus_nodes.now c.loop-k.bus_nodes links links a a a k s new here
          (omega (arith, was, c.requires.on_bus.ends.count)) sees
          (λ end. keeps_quiet E B same_refl met.kept_refl old new end a c.sample_quietly.ensures.node
          c.sample_quietly.ensures.room)
          (λ end. had_quiet E B same_refl met.kept_refl c.seen-sees.result old new end a
          (inv.row.ready k s here).ready c.sample_quietly.ensures.ready quiet) inv.row;
      links = inv.links;
      board = inv.board;
      idle = let I : Level → Type 0 = λ x. IsIdleBit x old new in
          done_one (BusNodeIdle c.args.struck c.args.level) k c.args.bus_nodes.now c.loop-k.bus_nodes s new was
          inv.row.count
          (subst I sees (idle_bit c.seen-sees.result old new (inv.row.ready k s here).ready quiet)) inv.idle;
      level = level_now c.loop-k.bus_nodes k new c.loop-k.next c.both-next.result here inv.level
          (c.both-next.ensures ∙ ap (λ (x : BusNode). wired (c.loop-k.next ∷ x.drives ∷ []))
          (set_here c.loop-k.bus_nodes k new c.index-bus_nodes-k-in-loop-k.result here));
    }

pub sample_quietly-requires-clause-told : goal.sample_quietly-requires-clause-told
sample_quietly-requires-clause-told g c =
    let k = c.loop-k.k in let s = c.index-bus_nodes-k.result in
    let was : k < length c.args.bus_nodes.now = search rules in
    ap (λ (x : BusNode). x.untold) ((c.loop-k.invariant.row.done k s was).1 (omega arith)) ∙ c.requires.told k s was

pub sample_quietly-requires-clause-free : goal.sample_quietly-requires-clause-free
sample_quietly-requires-clause-free g c =
    let k = c.loop-k.k in let s = c.index-bus_nodes-k.result in
    let was : k < length c.args.bus_nodes.now = search rules in let room = c.requires.free k s was in
    let P : BusNode → Type 0 = λ x. length x.journal.entries < x.journal.room.all in
    subst P (sym ((c.loop-k.invariant.row.done k s was).1 (omega arith))) (omega (arith, room))

-- this one, to which something happens, is as it was
set_same : (g : _) (c : After-sample_quietly g) → c.sample_quietly.result ≡ false →
    slice_set c.loop-k.bus_nodes c.loop-k.k c.sample_quietly.new.self ≡ c.loop-k.bus_nodes
set_same g c happens =
    ap (λ x. slice_set c.loop-k.bus_nodes c.loop-k.k x) (c.sample_quietly.ensures.same happens)
    ∙ set-get_or c.loop-k.bus_nodes c.loop-k.k c.index-bus_nodes-k.result

-- and those before it had a bit in which nothing happened
row_so_far : (g : _) (c : After-sample_quietly g) → c.sample_quietly.result ≡ false → IsUnderway g.E.BusEnd.same
    g.E.BusEnd.stands g.B.Board.ports g.B.Board.told g.B.Board.kept c.args.struck c.args.level c.args.bus_nodes.now
    c.args.links.now c.args.board.now c.loop-k.k (slice_set c.loop-k.bus_nodes c.loop-k.k c.sample_quietly.new.self)
    c.loop-k.links c.loop-k.board
row_so_far g c happens =
    let E = g.E.BusEnd in let B = g.B.Board in let inv = c.loop-k.invariant in let k = c.loop-k.k in
    underway_at E.same E.stands B.ports B.told B.kept c.args.struck c.args.level c.args.bus_nodes.now
    c.loop-k.bus_nodes (slice_set c.loop-k.bus_nodes k c.sample_quietly.new.self) c.args.links.now c.loop-k.links
    c.args.board.now c.loop-k.board k (set_same g c happens) inv.links inv.board inv.row

pub tell_from-requires : goal.tell_from-requires
tell_from-requires g c =
    let B = g.B.Board in let inv = c.loop-k.invariant in let k = c.loop-k.k in
    let row = row_so_far g (goal.at.tell_from-requires g c).After-sample_quietly (search rules) in
    let h = c.requires.on_bus in let set = length-set c.loop-k.bus_nodes k c.sample_quietly.new.self in
    let here : k < length c.loop-k.bus_nodes = search rules in
    let bus_nodes = c.loop-k.auto.bus_nodes in let few = h.few in
    let N : ℕ → Type 0 = λ n. AreEnds g.E.BusEnd.node n c.loop-k.links in
    let ports = h.ports in let p = ap B.ports inv.board in record {
      on_bus = record {
        few = omega (arith, few, bus_nodes);
        ends = subst N (sym (set ∙ bus_nodes)) (rw inv.links h.ends);
        ready = row.ready;
        ports = omega (arith, ports, bus_nodes, p);
      };
      few = omega (arith, here, set);
      told = λ m s from near. let low : m < length c.args.bus_nodes.now = omega (arith, near, set, bus_nodes) in
          ap (λ (x : BusNode). x.untold) ((row.done m s low).1 from) ∙ c.requires.told m s low;
    }

pub returns-clause-sames : goal.returns-clause-sames
returns-clause-sames g c =
    rw c.loop-k.invariant.links c.loop-k.invariant.row.goes.sames

pub returns-clause-ready : goal.returns-clause-ready
returns-clause-ready g c =
    c.loop-k.invariant.row.ready

pub returns-clause-goes : goal.returns-clause-goes
returns-clause-goes g c =
    rw c.loop-k.invariant.links c.loop-k.invariant.row.goes

pub returns-clause-board : goal.returns-clause-board
returns-clause-board g c =
    rw c.loop-k.invariant.board (refl, λ m far. g.met.B.Board.kept_refl c.args.board.now m)

pub returns-clause-turns : goal.returns-clause-turns
returns-clause-turns g c =
    let B = g.B.Board in let a = c.args.board.now in let all : length c.args.bus_nodes.now ≤ c.loop-k.k = search rules
    in
    rw c.loop-k.invariant.board (done_all (BusNodeTurns (B.told a a) (B.kept a a) c.args.struck c.args.level) c.loop-k.k
    c.args.bus_nodes.now c.loop-k.bus_nodes all c.loop-k.invariant.row.done)

pub returns-clause-rooms : goal.returns-clause-rooms
returns-clause-rooms g c =
    c.loop-k.invariant.row.rooms

pub returns-clause-level : goal.returns-clause-level
returns-clause-level g c =
    let all : length c.loop-k.bus_nodes ≤ c.loop-k.k = search rules in
    c.loop-k.invariant.level ∙ ap (λ l. wired (driven_by l)) (take_all c.loop-k.k c.loop-k.bus_nodes all)

pub returns-clause-untold : goal.returns-clause-untold
returns-clause-untold g c = λ untold.
    let all : length c.args.bus_nodes.now ≤ c.loop-k.k = search rules in let inv = c.loop-k.invariant in
    none_told c.args.struck c.args.level c.args.bus_nodes.now c.loop-k.bus_nodes c.args.board.now c.loop-k.board
    c.loop-k.auto.bus_nodes inv.board inv.row.rooms
    (done_all (BusNodeIdle c.args.struck c.args.level) c.loop-k.k c.args.bus_nodes.now c.loop-k.bus_nodes all inv.idle)

pub returns-then-not-sample_quietly-clause-sames : goal.returns-then-not-sample_quietly-clause-sames
returns-then-not-sample_quietly-clause-sames g c =
    subst (λ x. EachRelated g.E.BusEnd.same x c.tell_from.new.links) c.loop-k.invariant.links
    c.tell_from.ensures.sames

pub returns-then-not-sample_quietly-clause-board : goal.returns-then-not-sample_quietly-clause-board
returns-then-not-sample_quietly-clause-board g c =
    let b = c.loop-k.invariant.board in let few = c.loop-k.auto.bus_nodes in let set =
    length-set c.loop-k.bus_nodes c.loop-k.k c.sample_quietly.new.self in
    rw (sym b) (c.tell_from.ensures.board.0, λ m far. c.tell_from.ensures.board.1 m (omega (arith, far, few, set)))

pub returns-then-not-sample_quietly-clause-ready : goal.returns-then-not-sample_quietly-clause-ready
returns-then-not-sample_quietly-clause-ready g c =
    let at = (goal.at.returns-then-not-sample_quietly-clause-ready g c).After-sample_quietly in
    (c.in_ok-told.ensures.row c.args.bus_nodes.now c.args.links.now c.args.board.now
    (row_so_far g at (search rules))).2.ready

pub returns-then-not-sample_quietly-clause-goes : goal.returns-then-not-sample_quietly-clause-goes
returns-then-not-sample_quietly-clause-goes g c =
    let at = (goal.at.returns-then-not-sample_quietly-clause-goes g c).After-sample_quietly in
    (c.in_ok-told.ensures.row c.args.bus_nodes.now c.args.links.now c.args.board.now
    (row_so_far g at (search rules))).2.goes

pub returns-then-not-sample_quietly-clause-rooms : goal.returns-then-not-sample_quietly-clause-rooms
returns-then-not-sample_quietly-clause-rooms g c =
    let at = (goal.at.returns-then-not-sample_quietly-clause-rooms g c).After-sample_quietly in
    (c.in_ok-told.ensures.row c.args.bus_nodes.now c.args.links.now c.args.board.now
    (row_so_far g at (search rules))).2.rooms

pub returns-then-not-sample_quietly-clause-turns : goal.returns-then-not-sample_quietly-clause-turns
returns-then-not-sample_quietly-clause-turns g c =
    let B = g.B.Board in let at = (goal.at.returns-then-not-sample_quietly-clause-turns g c).After-sample_quietly in
    let row = row_so_far g at (search rules) in
    let did = c.in_ok-told.ensures.row c.args.bus_nodes.now c.args.links.now c.args.board.now row in
    let u = did.2 in let all = did.1 in let count = u.count in
    done_all (BusNodeTurns (B.told c.args.board.now c.tell_from.new.board)
    (B.kept c.args.board.now c.tell_from.new.board) c.args.struck c.args.level) did.0 c.args.bus_nodes.now
    c.tell_from.new.bus_nodes (omega (arith, all, count)) u.done

pub returns-then-not-sample_quietly-clause-told : goal.returns-then-not-sample_quietly-clause-told
returns-then-not-sample_quietly-clause-told g c = λ yes.
    let P : _ → Type 0 = λ b. SomeTold (g.B.Board.told b c.tell_from.new.board) c.tell_from.new.bus_nodes in
    subst P c.loop-k.invariant.board (c.in_ok-told.ensures.told yes)

pub returns-then-not-sample_quietly-clause-untold : goal.returns-then-not-sample_quietly-clause-untold
returns-then-not-sample_quietly-clause-untold g c = λ no.
    let at = (goal.at.returns-then-not-sample_quietly-clause-untold g c).After-sample_quietly in
    let happens : c.sample_quietly.result ≡ false = search rules in let row = row_so_far g at happens in
    let did = c.in_ok-told.ensures.row c.args.bus_nodes.now c.args.links.now c.args.board.now row in
    let quiet = c.in_ok-told.ensures.idle no in let inv = c.loop-k.invariant in let k = c.loop-k.k in
    let count = c.loop-k.auto.bus_nodes in let after = c.tell_from.new.bus_nodes in let was = c.args.bus_nodes.now in
    let set = length-set c.loop-k.bus_nodes k c.sample_quietly.new.self in
    let struck = c.args.struck in let level = c.args.level in
    none_told struck level was after c.args.board.now c.tell_from.new.board did.2.count (quiet.0 ∙ inv.board)
    did.2.rooms (λ m s few.
    let far = inv.idle m s few in
    let same = ap (λ l. slice_index_or l m s) (set_same g at happens) in
    let O : BusNode → Type 0 = λ x. BusNodeIdle struck level m x (slice_index_or after m s) in
    let N : BusNode → Type 0 = λ x. BusNodeIdle struck level m (slice_index_or was m s) x in
    elim (cases_lt m k) [
      | inl low ↦ subst N (sym (c.in_ok-told.ensures.before m s low ∙ same)) (far.0 low)
      | inr high ↦ subst O (same ∙ far.1 high) (quiet.1 m s high (omega (arith, few, set, count)))
    ])

pub returns-in_err-told-clause-sames : goal.returns-in_err-told-clause-sames
returns-in_err-told-clause-sames g c =
    subst (λ x. EachRelated g.E.BusEnd.same x c.tell_from.new.links) c.loop-k.invariant.links
    c.tell_from.ensures.sames

pub returns-in_err-told-clause-board : goal.returns-in_err-told-clause-board
returns-in_err-told-clause-board g c =
    let b = c.loop-k.invariant.board in let few = c.loop-k.auto.bus_nodes in let set =
    length-set c.loop-k.bus_nodes c.loop-k.k c.sample_quietly.new.self in
    rw (sym b) (c.tell_from.ensures.board.0, λ m far. c.tell_from.ensures.board.1 m (omega (arith, far, few, set)))

pub returns-in_err-told-clause-broken : goal.returns-in_err-told-clause-broken
returns-in_err-told-clause-broken g c =
    let E = g.E.BusEnd in
    let row = row_so_far g (goal.at.returns-in_err-told-clause-broken g c).After-sample_quietly (search rules) in
    let f = c.in_err-told.field-0.0 in
    let is : c.from_residual.result ≡ Err f = search rules in
    let P : _ → Type 0 = λ x. BusNodeBreaks E c.args.bus_nodes.now c.tell_from.new.bus_nodes c.args.links.now x in
    err_is P c.from_residual.result f is (c.in_err-told.ensures.broken c.args.bus_nodes.now
    c.args.links.now c.args.board.now row)

pub returns-in_err-told-clause-rooms : goal.returns-in_err-told-clause-rooms
returns-in_err-told-clause-rooms g c = λ n h.
    let row = row_so_far g (goal.at.returns-in_err-told-clause-rooms g c).After-sample_quietly (search rules) in
    c.tell_from.ensures.rooms n (row.rooms n h)
