use Rattle.std.proofs.Common.{◌≡◌, ◌≢◌, ◌+◌, ◌-◌, ◌<◌, ◌≤◌, true, false, replicate, None, List, ◌++◌, length, take}
use Rattle.std.proofs.Common.{drop, sym, ap, ◌∙◌, subst, arith, rules, refl, ℕ, Some}
use Rattle.std.proofs.lemmas.Grind.{common_steps}
use Rattle.std.specs.Prelude.{vec_capacity}
use Rattle.sja_regs.specs.declared.orders.Orders.{Orders}
use Rattle.sja_bus.specs.declared.bus_node.BusNode.{BusNode}
use Rattle.sja_journal.specs.Written.{Room}
use Rattle.sja_bus_rules.specs.Buses.{AreOnLinks, BusValue}
use Rattle.sja_steps.specs.declared.strike.Strike.{Strike}
use Rattle.sja_bus.specs.Inside.StrikesByBit.{Scripted}
use Rattle.sja_bus.specs.Stretches.{IsStretch, IsOutOfEntries}
use Rattle.sja_bus.specs.Inside.Rows.{AreBegun, IsBus, journals_of, untold_of}
use Rattle.sja_bus.specs.Inside.Whole.{IsWhole}
use Rattle.sja_bus.specs.Inside.AtOnce.{RunsAtOnce}
use Rattle.sja_bus.specs.Inside.Idling.{AreResting, IsOneAwake, IsFullBy, all_after}
use Rattle.sja_bus.specs.Inside.Refusing.{HaveRoom}
use Rattle.sja_bus_rules.specs.Reasons.{room_for}
use Rattle.sja_bus.proofs.WholeBus.Logs.{none_untold}
use Rattle.sja_bus.proofs.AllNodes.RanOn.{bus_with}
use Rattle.sja_bus.proofs.AllNodes.Running.{count_is}
use Rattle.sja_bus.proofs.Resting.Rests.{ends_awake}
use Rattle.sja_bus.proofs.Resting.Stretches.{after_untold, begun_after, room_after}
use Rattle.sja_bus.proofs.AllNodes.Begins.{on_links}
use Rattle.sja_bus.proofs.Resting.WholeStretches.{bus_after, stretch_after, ends_quiet}
use Rattle.sja_bus.proofs.Resting.WholeStretches.{out_of_entries, struck_by}
use Rattle.sja_bus.proofs.WholeBus.Broken.{whole_broken}
use Rattle.sja_bus.proofs.bus.Bus.run_idle_bits.Goals.{After-all_enter_idle_bits, After-quiet_for-bits, In-Ok}
use Rattle.sja_bus.proofs.bus.Bus.run_idle_bits.Goals.{then-bits-eq0-via-then-bits-eq0}
use Rattle.sja_bus.proofs.bus.Bus.run_idle_bits.Goals.{then-bits-eq0-via-else-bits-eq0+then-not-are_resting}
use Rattle.sja_bus.proofs.bus.Bus.run_idle_bits.Goals as goal

-- as many bus nodes as before
same_count : (g : _) (c : After-all_enter_idle_bits g) →
    length c.all_enter_idle_bits.new.bus_nodes ≡ length c.self.inside.bus_nodes.items
same_count g c = c.all_enter_idle_bits.auto.bus_nodes ∙ ap (λ (l : List BusNode). length l) c.as_mut_slice.ensures.value

-- the bus nodes that are written back are those
are_back : (g : _) (c : After-all_enter_idle_bits g) → take c.self.inside.bus_nodes.len
    (c.all_enter_idle_bits.new.bus_nodes ++ drop (length c.all_enter_idle_bits.new.bus_nodes)
    c.self.inside.bus_nodes.items) ≡ c.all_enter_idle_bits.new.bus_nodes
are_back g c = let len = same_count g c in grind (arith, common_steps)

-- there was no fault
is_right : (g : _) (c : After-all_enter_idle_bits g) → c.self.inside.fault ≡ None
is_right g c = ap (λ (w : BusValue). w.fault) c.self.view_is ∙ c.requires.right

-- all nodes rested
rested : (g : _) (c : After-all_enter_idle_bits g) → AreResting c.self.inside.bus_nodes.items
rested g c =
    let yes : c.are_resting.result ≡ true = search rules in
    let R : List BusNode → Type 0 = λ l. AreResting l in
    subst R c.as_slice.ensures.value (c.are_resting.ensures.yes yes)

-- their ports have orders
asked : (g : _) (c : After-all_enter_idle_bits g) (node : ℕ) → node < length c.self.inside.bus_nodes.items →
    (o : Orders) × g.B.Board.orders_are c.args.board.now node o
asked g c node few =
    let P : BusValue → Type 0 = λ w. length w.journals ≤ g.B.Board.ports c.args.board.now in
    let ports = subst P (sym c.self.view_is) c.requires.ports in let n = count_is c.self.inside.bus_nodes.items in
    g.met.B.Board.has_orders c.args.board.now node (omega (arith, few, ports, n))

-- each bus node has that many recessive bits more
grown : (g : _) (c : In-Ok g) → c.all_enter_idle_bits.new.bus_nodes ≡ all_after c.quiet_for-bits.result
    c.self.inside.bus_nodes.items
grown g c =
    let A : List BusNode → Type 0 = λ l. c.all_enter_idle_bits.new.bus_nodes ≡ all_after c.quiet_for-bits.result l in
    subst A c.as_mut_slice.ensures.value c.in-Ok.ensures.rested

pub returns-in-Ok-clause-within : goal.returns-in-Ok-clause-within
returns-in-Ok-clause-within g c =
    let at = goal.at.returns-in-Ok-clause-within g c in let b = c.self.inside in
    let right = is_right g at.After-all_enter_idle_bits in let n = c.quiet_for-bits.result in
    let L : List BusNode → Type 0 = λ l. AreOnLinks b.starts (journals_of l) in
    subst L (sym (are_back g at.After-all_enter_idle_bits)) (subst L (sym (grown g at.In-Ok))
    (on_links b.starts (all_after n b.bus_nodes.items)
    (begun_after n b.starts b.bus_nodes.items (c.self.invariant.0.begun right))))

pub returns-then-bits-eq0-clause-within : goal.returns-then-bits-eq0-clause-within
returns-then-bits-eq0-clause-within g c =
    let b = c.self.inside in let right = ap (λ (w : BusValue). w.fault) c.self.view_is ∙ c.requires.right in
    on_links b.starts b.bus_nodes.items (c.self.invariant.0.begun right)

-- where none was run
pub invariant_of-self : goal.invariant_of-self
invariant_of-self g c =
    let b = c.self.inside in
    let S : Scripted → Type 0 = λ s. IsWhole s b.starts b.steps.items b.run b.left b.fault b.bus_nodes.items
    (vec_capacity
    b.logs) in
    (subst S (sym c.quiet_for-bits.ensures.same) c.self.invariant.0, c.self.invariant.1)

pub invariant_of-self-in-Ok : goal.invariant_of-self-in-Ok
invariant_of-self-in-Ok g c =
    let at = (goal.at.invariant_of-self-in-Ok g c).After-all_enter_idle_bits in
    let b = c.self.inside in let n = c.quiet_for-bits.result in let inv = c.self.invariant.0 in
    let now = c.all_enter_idle_bits.new.bus_nodes in let was = b.bus_nodes.items in let board = c.args.board.now in
    let len = same_count g at in
    let is = grown g (goal.at.invariant_of-self-in-Ok g c).In-Ok in
    let I : List BusNode → Type 0 = λ l. IsBus b.struck.script (b.run + n) l in
    let H : List BusNode → Type 0 = λ l. HaveRoom (room_for b.struck.bits b.steps.items) l in
    let few = inv.few in let logs = inv.logs in let bits = inv.bits in
    let most = c.quiet_for-bits.ensures.most in
    let left = c.fewer-most.ensures.left in
    let l : IsWhole b.struck b.starts b.steps.items (b.run + n) (b.left - n) b.fault now (vec_capacity b.logs) =
    record {
      few = omega (arith, len, few);
      bits = omega (arith, bits, most, left);
      most = inv.most;
      asked = let asked = inv.asked in omega (arith, asked);
      bus = λ f. subst I (sym is)
          (bus_after (g.B.Board.orders_are board) (g.B.Board.told board board) (g.B.Board.kept board board)
          (λ node. g.met.B.Board.kept_refl board node) was (inv.bus f).ready (rested g at) (asked g at)
          b.struck.script b.run n few
          c.quiet_for-bits.ensures.quiet (inv.bus f));
      begun = λ f. subst (AreBegun b.starts) (sym is) (begun_after n b.starts was (inv.begun f));
      logs = omega (arith, len, logs);
      rooms = subst H (sym is) (room_after n (room_for b.struck.bits b.steps.items) was inv.rooms);
    } in
    let P : List BusNode → Type 0 = λ xs. IsWhole c.quiet_for-bits.new.self b.starts b.steps.items (b.run + n) (b.left -
    n) b.fault
    xs (vec_capacity b.logs) in
    let S : Scripted → Type 0 = λ s. IsWhole s b.starts b.steps.items (b.run + n) (b.left - n) b.fault now
    (vec_capacity b.logs) in
    (subst P (sym (are_back g at)) (subst S (sym c.quiet_for-bits.ensures.same) l), c.self.invariant.1)

pub quiet_for-bits-requires-clause-on : goal.quiet_for-bits-requires-clause-on
quiet_for-bits-requires-clause-on g c = c.self.invariant.0.asked

pub quiet_for-bits-requires-clause-within : goal.quiet_for-bits-requires-clause-within
quiet_for-bits-requires-clause-within g c =
    let inv = c.self.invariant.0 in let bits = inv.bits in let left = c.fewer-most.ensures.left in
    omega (arith, bits, left)

pub returns-in-Ok-clause-runs : goal.returns-in-Ok-clause-runs
returns-in-Ok-clause-runs g c =
    let here = goal.at.returns-in-Ok-clause-runs g c in let at = here.After-all_enter_idle_bits in
    let b = c.self.inside in let n = c.quiet_for-bits.result in let inv = c.self.invariant.0 in
    let now = c.all_enter_idle_bits.new.bus_nodes in let was = b.bus_nodes.items in let board = c.args.board.now in
    let orders = g.B.Board.orders_are board in let told = g.B.Board.told board board in
    let kept = g.B.Board.kept board board in
    let is = grown g here.In-Ok in let rest = rested g at in
    let some : n ≢ 0 = search rules in
    let quiet = c.quiet_for-bits.ensures.most in let few = c.fewer-most.ensures.count in
    let left = c.fewer-most.ensures.left in let script = c.quiet_for-bits.new.self.script in
    let h = stretch_after orders told kept (λ node. g.met.B.Board.kept_refl board node) was
    (inv.bus (is_right g at)).ready rest (asked g at) b.struck.script b.run n inv.few c.quiet_for-bits.ensures.quiet
    (inv.bus (is_right g at)) in
    let N : List BusNode → Type 0 = λ l.
    IsStretch orders told kept b.struck.script b.run n (untold_of was) (journals_of was) (journals_of l) in
    let none : untold_of was ≡ replicate (length was) false =
    none_untold was (λ k s few. (rest k s few).none) in
    let V : List Strike → ℕ → ℕ → List BusNode → BusValue = λ s run left l.
    bus_with s b.starts b.steps.items run left b.fault l in
    let r : RunsAtOnce g.B.Board board c.args.count (V b.struck.script b.run b.left was)
    (V script (b.run + n) (b.left - n) now) n = record {
      most = omega (arith, quiet, few);
      bits = (refl, omega (arith, quiet, left));
      steps = refl;
      none = λ zero. absurd (some zero);
      stretch = λ ne. subst N (sym is) h;
      told = λ ne. ap (λ (l : List BusNode). untold_of l) is ∙ after_untold n was ∙ none
          ∙ ap (λ m. replicate m false) (sym (count_is was));
      right = is_right g at;
    } in
    let P : BusValue → Type 0 = λ x.
    RunsAtOnce g.B.Board board c.args.count x (V script (b.run + n) (b.left - n) now) n in
    let Q : List BusNode → Type 0 = λ l.
    RunsAtOnce g.B.Board board c.args.count c.args.self.now (V script (b.run + n) (b.left - n) l) n in
    subst Q (sym (are_back g at)) (subst P c.self.view_is r)

pub invariant_of-self-in-Err : goal.invariant_of-self-in-Err
invariant_of-self-in-Err g c =
    let at = (goal.at.invariant_of-self-in-Err g c).After-all_enter_idle_bits in let b = c.self.inside in
    let now = c.all_enter_idle_bits.new.bus_nodes in
    let H : List BusNode → Type 0 = λ l. (n : ℕ → Room) → HaveRoom n l → HaveRoom n now in
    let P : List BusNode → Type 0 = λ xs. IsWhole c.quiet_for-bits.new.self b.starts b.steps.items b.run b.left
    (Some c.in-Err.fault) xs (vec_capacity b.logs) in
    let S : Scripted → Type 0 = λ s. IsWhole s b.starts b.steps.items b.run b.left (Some c.in-Err.fault) now
    (vec_capacity b.logs) in (
      subst P (sym (are_back g at)) (subst S (sym c.quiet_for-bits.ensures.same) (whole_broken b.struck b.starts
          b.steps.items
          b.run b.left b.run b.left b.fault c.in-Err.fault b.bus_nodes.items now (vec_capacity b.logs) (same_count g at)
          (omega arith) refl
          (subst H c.as_mut_slice.ensures.value c.all_enter_idle_bits.ensures.rooms) c.self.invariant.0)),
      c.self.invariant.1,
    )

-- the script is as it was
script_is : (g : _) (c : After-quiet_for-bits g) → c.quiet_for-bits.new.self.script ≡ c.self.inside.struck.script
script_is g c = ap (λ (s : Scripted). s.script) c.quiet_for-bits.ensures.same

pub returns-in-Ok-clause-script : goal.returns-in-Ok-clause-script
returns-in-Ok-clause-script g c =
    script_is g (goal.at.returns-in-Ok-clause-script g c).After-quiet_for-bits
    ∙ ap (λ (w : BusValue). w.script) c.self.view_is

pub returns-in-Err-clause-script : goal.returns-in-Err-clause-script
returns-in-Err-clause-script g c =
    script_is g (goal.at.returns-in-Err-clause-script g c).After-quiet_for-bits
    ∙ ap (λ (w : BusValue). w.script) c.self.view_is

pub returns-then-bits-eq0-clause-script : goal.returns-then-bits-eq0-clause-script
returns-then-bits-eq0-clause-script g c =
    script_is g (goal.at.returns-then-bits-eq0-clause-script g c).After-quiet_for-bits
    ∙ ap (λ (w : BusValue). w.script) c.self.view_is

-- where none was run the bus is as it was
pub returns-then-bits-eq0-clause-runs : goal.returns-then-bits-eq0-clause-runs
returns-then-bits-eq0-clause-runs g c =
    let b = c.self.inside in
    let same = ap (λ (l : List Strike). bus_with l b.starts b.steps.items b.run b.left b.fault b.bus_nodes.items)
    (script_is g (goal.at.returns-then-bits-eq0-clause-runs g c).After-quiet_for-bits) ∙ c.self.view_is in
    let R : BusValue → Type 0 = λ w. RunsAtOnce g.B.Board c.args.board.now c.args.count c.args.self.now w 0 in
    subst R (sym same) (record {
      most = omega arith;
      bits = (omega arith, omega arith);
      steps = refl;
      none = λ zero. refl;
      stretch = λ some. absurd (some refl);
      told = λ some. absurd (some refl);
      right = c.requires.right;
    })

pub returns-then-bits-eq0-clause-longest : goal.returns-then-bits-eq0-clause-longest
returns-then-bits-eq0-clause-longest g c =
    let b = c.self.inside in let inv = c.self.invariant.0 in let count = c.args.count in let was = b.bus_nodes.items in
    let right : b.fault ≡ None = ap (λ (w : BusValue). w.fault) c.self.view_is ∙ c.requires.right in
    let script = c.quiet_for-bits.new.self.script in
    let same = script_is g (goal.at.returns-then-bits-eq0-clause-longest g c).After-quiet_for-bits in
    let v : BusValue = bus_with script b.starts b.steps.items b.run b.left b.fault was in
    elim c.then-bits-eq0.branch [
      | then-bits-eq0-via-then-bits-eq0 w ↦
          let zero : c.quiet_for-bits.result ≡ 0 = search rules in
          let none : b.run + c.quiet_for-bits.result ≡ b.run = omega (arith, zero) in
          ends_quiet count 0 c.fewer-most.result b.left v (omega arith) c.fewer-most.ensures.whole
          (struck_by b.struck.script script (b.run + c.quiet_for-bits.result) b.run c.quiet_for-bits.result 0
          c.fewer-most.result same none zero c.quiet_for-bits.ensures.longest)
      | then-bits-eq0-via-else-bits-eq0+then-not-are_resting w ↦
          let no : w.are_resting.result ≡ false = search rules in
          ends_awake count 0 v was refl refl (inv.bus right).ready
          (subst (λ (l : List BusNode). IsOneAwake l) w.as_slice.ensures.value (w.are_resting.ensures.no no))
    ]

pub returns-in-Ok-clause-longest : goal.returns-in-Ok-clause-longest
returns-in-Ok-clause-longest g c =
    let b = c.self.inside in let n = c.quiet_for-bits.result in
    let script = c.quiet_for-bits.new.self.script in
    let same = script_is g (goal.at.returns-in-Ok-clause-longest g c).After-quiet_for-bits in
    let most = c.quiet_for-bits.ensures.most in let left = c.fewer-most.ensures.left in
    ends_quiet c.args.count n c.fewer-most.result b.left
    (bus_with script b.starts b.steps.items (b.run + n) (b.left - n) b.fault _) (omega (arith, most, left))
    c.fewer-most.ensures.whole (struck_by b.struck.script script (b.run + n) (b.run + n) n n c.fewer-most.result
    same refl refl c.quiet_for-bits.ensures.longest)

pub returns-in-Err-clause-reason : goal.returns-in-Err-clause-reason
returns-in-Err-clause-reason g c =
    let at = (goal.at.returns-in-Err-clause-reason g c).After-all_enter_idle_bits in
    let b = c.self.inside in let inv = c.self.invariant.0 in let f = c.in-Err.fault in
    let n = c.quiet_for-bits.result in let now = c.all_enter_idle_bits.new.bus_nodes in let was = b.bus_nodes.items in
    let F : List BusNode → Type 0 = λ l. IsFullBy n l now f in
    let full : IsFullBy n was now f = subst F c.as_mut_slice.ensures.value c.in-Err.ensures.full in
    let m = c.quiet_for-bits.ensures.most in let l = c.fewer-most.ensures.left in
    let left : n ≤ b.left = omega (arith, m, l) in
    let H : ℕ → Type 0 = λ m. HaveRoom (room_for m b.steps.items) was in
    let rooms : HaveRoom (room_for (b.run + b.left) b.steps.items) was = subst H (sym inv.bits) inv.rooms in
    let P : BusValue → Type 0 = λ x. IsOutOfEntries (x.run + x.left) x.steps x.left x.journals (journals_of now) f in
    let old = c.args.self.now in
    let Q : List BusNode → Type 0 = λ l. IsOutOfEntries (old.run + old.left) old.steps old.left old.journals
    (journals_of
    l) f in
    subst Q (sym (are_back g at))
    (subst P c.self.view_is (out_of_entries (b.run + b.left) b.steps.items b.left n was now f (same_count g at) left
    rooms full))
