use Rattle.std.proofs.Common.{◌≡◌, ◌+◌, ◌-◌, ◌≤◌, ℕ, true, List, ◌++◌, length, take, drop, refl, sym, ap, ◌∙◌, subst}
use Rattle.std.proofs.Common.{arith, rules, Some}
use Rattle.std.proofs.lemmas.Grind.{common_steps}
use Rattle.std.specs.Prelude.{◌⊎◌, None, Result, Ok, Err, vec_capacity}
use Rattle.sja_journal.specs.Written.{Room}
use Rattle.sja_steps.specs.declared.strike.Strike.{Strike}
use Rattle.sja_steps.specs.Striking.{Strikes}
use Rattle.sja_bus.specs.Inside.StrikesByBit.{Scripted}
use Rattle.sja_journal.specs.declared.bus_fault.BusFault.{BusFault}
use Rattle.sja_bus.specs.declared.bus_node.BusNode.{BusNode}
use Rattle.sja_journal.specs.Links.{AreEnds, HaveLinks}
use Rattle.sja_bus_rules.specs.Buses.{BusValue}
use Rattle.sja_bus.specs.Moment.{moment}
use Rattle.sja_bus_rules.specs.Reasons.{room_for}
use Rattle.sja_bus.specs.Inside.Refusing.{AreFree, HaveRoom}
use Rattle.sja_bus.specs.Inside.Rows.{AreBegun, AreOnBus, journals_of}
use Rattle.sja_bus.specs.UntilTold.{EndsUntilTold, HasFree, IsCalm, RunsNone, WorksUntold}
use Rattle.sja_bus.specs.Inside.RunningOn.{bus_of, AnyBit, MayRunOn, RowsRunNone, SomeAborts, SomeTold}
use Rattle.sja_bus.specs.Inside.RunningOn.{SomeUntold}
use Rattle.sja_bus.specs.Inside.Whole.{IsWhole}
use Rattle.sja_bus.proofs.AllNodes.RanOn.{bus_is, bus_with, ran, stopped}
use Rattle.sja_bus.proofs.AllNodes.Running.{count_is}
use Rattle.sja_bus.proofs.AllNodes.SoFar.{none_yet}
use Rattle.sja_bus.proofs.AllNodes.UntilTold.{calm_bus, ended, free_bus, held_by_port, held_by_rows}
use Rattle.sja_bus.proofs.WholeBus.Broken.{whole_broken}
use Rattle.sja_bus.proofs.bus.Bus.run_until_told.Goals.{After-untaken_bits}
use Rattle.sja_bus.proofs.bus.Bus.run_until_told.Goals as goal

-- there was no fault before
right : (g : _) (c : After-untaken_bits g) → c.self.inside.fault ≡ None
right g c = ap (λ w. w.fault) c.self.view_is ∙ c.requires.right

-- as many bus nodes as before
same_count : (g : _) (c : After-untaken_bits g) →
    length c.untaken_bits.new.bus_nodes ≡ length c.self.inside.bus_nodes.items
same_count g c = c.untaken_bits.auto.bus_nodes ∙ ap (λ (l : List BusNode). length l)
    c.as_mut_slice-bus_nodes.ensures.value

-- the bus nodes that are written back are those
are_back : (g : _) (c : After-untaken_bits g) → take c.self.inside.bus_nodes.len
    (c.untaken_bits.new.bus_nodes ++ drop (length c.untaken_bits.new.bus_nodes) c.self.inside.bus_nodes.items)
    ≡ c.untaken_bits.new.bus_nodes
are_back g c = let len = same_count g c in grind (arith, common_steps)

enough_left : (g : _) (c : After-untaken_bits g) → c.args.most ≤ c.self.inside.left
enough_left g c = let left = ap (λ w. w.left) c.self.view_is in let most = c.requires.most in omega (arith, left, most)

-- the script is as it was
script_is : (g : _) (c : After-untaken_bits g) → c.untaken_bits.new.struck.script ≡ c.self.inside.struck.script
script_is g c = ap (λ (s : Scripted). s.script) c.untaken_bits.ensures.same

-- the bus before, by the bus nodes that run on
begins : (g : _) (c : After-untaken_bits g) → let b = c.self.inside in
    bus_of b.struck.script b.starts b.steps.items b.run b.left c.as_mut_slice-bus_nodes.result.now ≡ c.args.self.now
begins g c = let b = c.self.inside in
    bus_is b.struck.script b.starts b.steps.items b.run b.left b.fault b.bus_nodes.items
    c.as_mut_slice-bus_nodes.result.now
    c.args.self.now c.as_mut_slice-bus_nodes.ensures.value (right g c) c.self.view_is

-- no more activations had begun than there are links for, as many as the bus was made for
begun_before : (g : _) (c : After-untaken_bits g) → AreBegun c.self.inside.starts c.as_mut_slice-bus_nodes.result.now
begun_before g c =
    subst (AreBegun c.self.inside.starts) (sym c.as_mut_slice-bus_nodes.ensures.value)
    (c.self.invariant.0.begun (right g c))

many_links : (g : _) (c : After-untaken_bits g) → HaveLinks g.E.BusEnd.links c.self.inside.starts c.args.links.now
many_links g c =
    let H : BusValue → Type 0 = λ w. HaveLinks g.E.BusEnd.links w.starts c.args.links.now in
    subst H (sym c.self.view_is) c.requires.fit.many

pub returns-then-not-may_run_untaken-clause-runs : goal.returns-then-not-may_run_untaken-clause-runs
returns-then-not-may_run_untaken-clause-runs g c =
    let E = g.E.BusEnd in let B = g.B.Board in let was = moment c.args.self.now c.args.links.now c.args.board.now in
    none_yet E B (AnyBit E B) g.met.E.BusEnd.same_refl g.met.B.Board.kept_refl (WorksUntold c.args.to_rest was) was
    c.requires.right

pub returns-then-not-may_run_untaken-clause-none : goal.returns-then-not-may_run_untaken-clause-none
returns-then-not-may_run_untaken-clause-none g c = λ zero.
    let b = c.self.inside in let asked = g.B.Board.orders_are c.args.board.now in
    let Q : List BusNode → Type 0 = λ l. SomeAborts asked (length l) ⊎ SomeUntold l in
    subst (RunsNone asked c.args.to_rest c.args.most) c.self.view_is
    (held_by_port c.args.to_rest c.args.most b.struck.script b.starts b.steps.items b.run b.left b.fault
    b.bus_nodes.items
    asked
    (subst Q c.as_slice.ensures.value (c.may_run_untaken.ensures.no (search rules))))

pub returns-in-Ok-clause-none : goal.returns-in-Ok-clause-none
returns-in-Ok-clause-none g c = λ zero.
    let at = (goal.at.returns-in-Ok-clause-none g c).After-untaken_bits in
    let b = c.self.inside in let asked = g.B.Board.orders_are c.args.board.now in let whole = c.self.invariant.0 in
    let none : c.in-Ok.bits ≡ 0 = ap (λ (r : Result ℕ BusFault). count_in r) zero in
    let N : ℕ → Type 0 = λ m. HaveRoom (room_for m b.steps.items) b.bus_nodes.items in
    let Q : List BusNode → Type 0 = RowsRunNone c.args.to_rest b.struck.script b.run c.args.most in
    subst (RunsNone asked c.args.to_rest c.args.most) c.self.view_is
    (held_by_rows c.args.to_rest c.args.most b.struck.script b.starts b.steps.items b.run b.left b.fault
    b.bus_nodes.items
    asked
    (whole.bus (right g at)).ready (subst N (sym whole.bits) whole.rooms)
    (subst Q c.as_mut_slice-bus_nodes.ensures.value (c.in-Ok.ensures.runs.ends.none none)))
  where
    count_in : Result ℕ BusFault → ℕ
    count_in (Ok n) = n
    count_in (Err f) = 0

pub returns-then-not-may_run_untaken-clause-calm : goal.returns-then-not-may_run_untaken-clause-calm
returns-then-not-may_run_untaken-clause-calm g c = λ some. absurd (some refl)

pub returns-in-Ok-clause-calm : goal.returns-in-Ok-clause-calm
returns-in-Ok-clause-calm g c = λ some.
    let b = c.self.inside in let asked = g.B.Board.orders_are c.args.board.now in
    let may : c.may_run_untaken.result ≡ true = search rules in
    let P : List BusNode → Type 0 = λ l. MayRunOn g.B.Board c.args.board.now l in
    let on = subst P c.as_slice.ensures.value (c.may_run_untaken.ensures.may may) in
    subst (IsCalm asked) c.self.view_is
    (calm_bus c.args.to_rest c.args.most b.struck.script b.starts b.steps.items b.run b.left b.fault b.bus_nodes.items
    asked
    on.orders on.told)

pub returns-then-not-may_run_untaken-clause-free : goal.returns-then-not-may_run_untaken-clause-free
returns-then-not-may_run_untaken-clause-free g c = λ some. absurd (some refl)

pub returns-in-Ok-clause-free : goal.returns-in-Ok-clause-free
returns-in-Ok-clause-free g c = λ some.
    let at = (goal.at.returns-in-Ok-clause-free g c).After-untaken_bits in
    let b = c.self.inside in let whole = c.self.invariant.0 in let n = c.in-Ok.bits in
    let N : ℕ → Type 0 = λ m. HaveRoom (room_for m b.steps.items) b.bus_nodes.items in
    let F : List BusNode → Type 0 = λ l. AreFree n l in
    subst (HasFree n) c.self.view_is
    (free_bus c.args.to_rest c.args.most b.struck.script b.starts b.steps.items b.run b.left b.fault b.bus_nodes.items n
    some
    (subst F c.as_mut_slice-bus_nodes.ensures.value c.in-Ok.ensures.runs.ends.free)
    (subst N (sym whole.bits) whole.rooms))

pub returns-then-not-may_run_untaken-clause-longest : goal.returns-then-not-may_run_untaken-clause-longest
returns-then-not-may_run_untaken-clause-longest g c = λ some. absurd (some refl)

pub returns-in-Ok-clause-longest : goal.returns-in-Ok-clause-longest
returns-in-Ok-clause-longest g c = λ some.
    let at = (goal.at.returns-in-Ok-clause-longest g c).After-untaken_bits in
    let b = c.self.inside in let n = c.in-Ok.bits in let now = c.untaken_bits.new.bus_nodes in
    let whole = c.self.invariant.0 in let bits = whole.bits in let enough = enough_left g at in
    let most = c.in-Ok.ensures.most in let runs = c.in-Ok.ensures.runs.runs in
    let was = moment c.args.self.now c.args.links.now c.args.board.now in
    let all : b.struck.bits ≡ (b.run + n) + (b.left - n) = omega (arith, bits, most, enough) in
    let H : List BusNode → Type 0 = λ l. (m : ℕ → Room) → HaveRoom m l → HaveRoom m now in
    let N : ℕ → Type 0 = λ m. HaveRoom (room_for m b.steps.items) now in
    let P : BusValue → Type 0 = λ w. EndsUntilTold g.B.Board c.args.to_rest c.args.most was n
    (moment w c.untaken_bits.new.links c.untaken_bits.new.board) in
    let script = c.untaken_bits.new.struck.script in
    let R : List Strike → Type 0 = λ l. RowsRunNone c.args.to_rest l (b.run + n) (c.args.most - n) now
    ⊎ SomeTold (g.B.Board.told c.args.board.now c.untaken_bits.new.board) now in
    subst P (bus_is script b.starts b.steps.items (b.run + n) (b.left - n) b.fault _ now _ (sym (are_back g at))
    (right g at)
    refl)
    (ended g.B.Board c.args.to_rest c.args.most n script b.starts b.steps.items (b.run + n) (b.left - n) now was
    c.untaken_bits.new.links c.untaken_bits.new.board most runs.bus.ready
    (subst N all (subst H c.as_mut_slice-bus_nodes.ensures.value runs.rooms (room_for b.struck.bits b.steps.items)
    whole.rooms)) (subst R (sym (script_is g at)) c.in-Ok.ensures.runs.ends.why))

pub untaken_bits-requires-clause-on_bus : goal.untaken_bits-requires-clause-on_bus
untaken_bits-requires-clause-on_bus g c =
    let b = c.self.inside in let whole = c.self.invariant.0 in let fit = c.requires.fit in
    let nodes = ap (λ w. length w.journals) c.self.view_is in let bus_nodes = count_is b.bus_nodes.items in
    let ports = fit.ports in
    let N : ℕ → Type 0 = λ n. AreEnds g.E.BusEnd.node n c.args.links.now in
    let P : List BusNode → Type 0 = λ l. AreOnBus g.E.BusEnd.node l c.args.links.now (g.B.Board.ports c.args.board.now)
    in
    subst P (sym c.as_mut_slice-bus_nodes.ensures.value) (record {
      few = whole.few;
      ends = subst N (sym nodes ∙ bus_nodes) fit.ends;
      ready = (whole.bus (ap (λ w. w.fault) c.self.view_is ∙ c.requires.right)).ready;
      ports = omega (arith, nodes, bus_nodes, ports);
    })

pub untaken_bits-requires-clause-on : goal.untaken_bits-requires-clause-on
untaken_bits-requires-clause-on g c = c.self.invariant.0.asked

pub untaken_bits-requires-clause-may : goal.untaken_bits-requires-clause-may
untaken_bits-requires-clause-may g c =
    let may : c.may_run_untaken.result ≡ true = search rules in
    let P : List BusNode → Type 0 = λ l. MayRunOn g.B.Board c.args.board.now l in
    subst P (c.as_slice.ensures.value ∙ sym c.as_mut_slice-bus_nodes.ensures.value) (c.may_run_untaken.ensures.may may)

pub invariant_of-self : goal.invariant_of-self
invariant_of-self g c =
    let at = (goal.at.invariant_of-self g c).After-untaken_bits in
    let b = c.self.inside in let n = c.in-Ok.bits in let now = c.untaken_bits.new.bus_nodes in
    let whole = c.self.invariant.0 in let few = whole.few in let logs = whole.logs in let bits = whole.bits in
    let len = same_count g at in let enough = enough_left g at in let most = c.in-Ok.ensures.most in
    let H : List BusNode → Type 0 = λ l. (m : ℕ → Room) → HaveRoom m l → HaveRoom m now in
    let P : List BusNode → Type 0 = λ l. IsWhole c.untaken_bits.new.struck b.starts b.steps.items (b.run + n) (b.left -
    n) b.fault l
    (vec_capacity b.logs) in
    let S : Scripted → Type 0 = λ s. IsWhole s b.starts b.steps.items (b.run + n) (b.left - n) b.fault now
    (vec_capacity b.logs) in (
      subst P (sym (are_back g at)) (subst S (sym c.untaken_bits.ensures.same) (record {
        few = omega (arith, len, few);
        bits = omega (arith, bits, most, enough);
        most = whole.most;
        asked = let asked = whole.asked in omega (arith, asked);
        bus = λ right. c.in-Ok.ensures.runs.runs.bus;
        begun = λ right. c.in-Ok.ensures.runs.runs.begun b.starts
            (subst (AreBegun b.starts) (sym c.as_mut_slice-bus_nodes.ensures.value) (whole.begun right));
        logs = omega (arith, len, logs);
        rooms = subst H c.as_mut_slice-bus_nodes.ensures.value c.untaken_bits.ensures.keeps.rooms
            (room_for b.struck.bits b.steps.items) whole.rooms;
      })),
      c.self.invariant.1,
    )

pub invariant_of-self-in-Err : goal.invariant_of-self-in-Err
invariant_of-self-in-Err g c =
    let at = (goal.at.invariant_of-self-in-Err g c).After-untaken_bits in
    let b = c.self.inside in let n = c.in-Err.broken.after in let now = c.untaken_bits.new.bus_nodes in
    let f = c.in-Err.broken.fault in let enough = enough_left g at in let most = c.in-Err.ensures.most in
    let H : List BusNode → Type 0 = λ l. (m : ℕ → Room) → HaveRoom m l → HaveRoom m now in
    let P : List BusNode → Type 0 = λ l. IsWhole c.untaken_bits.new.struck b.starts b.steps.items (b.run + n) (b.left -
    n) (Some f)
    l (vec_capacity b.logs) in
    let S : Scripted → Type 0 = λ s. IsWhole s b.starts b.steps.items (b.run + n) (b.left - n) (Some f) now
    (vec_capacity b.logs) in (
      subst P (sym (are_back g at)) (subst S (sym c.untaken_bits.ensures.same) (whole_broken b.struck b.starts
          b.steps.items
          b.run b.left (b.run + n) (b.left - n) b.fault f b.bus_nodes.items now (vec_capacity b.logs) (same_count g at)
          (omega arith) (omega (arith, most, enough))
          (subst H c.as_mut_slice-bus_nodes.ensures.value c.untaken_bits.ensures.keeps.rooms) c.self.invariant.0)),
      c.self.invariant.1,
    )

pub returns-in-Ok-clause-runs : goal.returns-in-Ok-clause-runs
returns-in-Ok-clause-runs g c =
    let at = (goal.at.returns-in-Ok-clause-runs g c).After-untaken_bits in
    let E = g.E.BusEnd in let B = g.B.Board in let b = c.self.inside in let n = c.in-Ok.bits in
    let now = c.untaken_bits.new.bus_nodes in
    let N : List Strike → Type 0 = λ l. bus_of l b.starts b.steps.items (b.run + n) (b.left - n) now
    ≡ bus_with c.untaken_bits.new.struck.script b.starts b.steps.items (b.run + n) (b.left - n) b.fault
    (take b.bus_nodes.len (now ++ drop (length now) b.bus_nodes.items)) in
    ran E B c.args.to_rest b.struck.script b.starts b.steps.items b.run b.left c.as_mut_slice-bus_nodes.result.now
    c.untaken_bits.new.bus_nodes c.args.links.now c.untaken_bits.new.links c.args.board.now c.untaken_bits.new.board
    c.args.most c.untaken_bits.auto.bus_nodes c.untaken_bits.ensures.keeps.sames c.untaken_bits.ensures.keeps.others
    c.args.self.now
    (begins g at) n _ (begun_before g at) c.in-Ok.ensures.most (enough_left g at)
    (subst N (script_is g at) (bus_is c.untaken_bits.new.struck.script b.starts b.steps.items (b.run + n) (b.left - n)
    b.fault _
    now _ (sym (are_back g at)) (right g at) refl)) c.in-Ok.ensures.runs.runs

pub returns-in-Ok-clause-unstruck : goal.returns-in-Ok-clause-unstruck
returns-in-Ok-clause-unstruck g c = λ i node low few strikes.
    let P : BusValue → Type 0 = λ w. Strikes w.script (w.run + i) node in
    c.in-Ok.ensures.runs.runs.unstruck i node low few (subst P (sym c.self.view_is) strikes)

pub returns-in-Err-clause-stops : goal.returns-in-Err-clause-stops
returns-in-Err-clause-stops g c =
    let at = (goal.at.returns-in-Err-clause-stops g c).After-untaken_bits in
    let E = g.E.BusEnd in let B = g.B.Board in let b = c.self.inside in let whole = c.self.invariant.0 in
    let bus_nodes = c.as_mut_slice-bus_nodes.result.now in
    let N : ℕ → Type 0 = λ m. HaveRoom (room_for m b.steps.items) b.bus_nodes.items in
    let R : List BusNode → Type 0 = λ l. HaveRoom (room_for (b.run + b.left) b.steps.items) l in
    stopped E B c.args.to_rest b.struck.script b.starts b.steps.items b.run b.left bus_nodes
    c.untaken_bits.new.bus_nodes
    c.args.links.now c.untaken_bits.new.links c.args.board.now c.untaken_bits.new.board c.args.most
    c.untaken_bits.auto.bus_nodes c.untaken_bits.ensures.keeps.sames c.untaken_bits.ensures.keeps.others c.args.self.now
    (begins g at) c.in-Err.broken _ (begun_before g at) (many_links g at) (enough_left g at)
    (subst R (sym c.as_mut_slice-bus_nodes.ensures.value) (subst N (sym whole.bits) whole.rooms))
    (script_is g at) refl refl refl refl refl (ap (λ (l : List BusNode). journals_of l) (are_back g at))
    c.in-Err.ensures.breaks
