use Rattle.std.specs.Prelude.{slice_index_or}
use Rattle.std.proofs.lemmas.List.{get_or_default as or_same}
use Rattle.std.proofs.Common.{◌≡◌, ℕ, ◌+◌, ◌<◌, ◌≤◌, Bool, false, None, List, [], length, replicate, rules}
use Rattle.std.proofs.Common.{arith, sym, ap, ◌∙◌, subst, vec_capacity}
use Rattle.sja_journal.specs.Opening.{begun_in}
use Rattle.sja_journal.specs.Written.{room_in}
use Rattle.sja_journal.specs.declared.entry.Entry.{Entry}
use Rattle.sja_bus.specs.declared.bus_node.BusNode.{BusNode}
use Rattle.sja_bus_rules.specs.Buses.{BusValue}
use Rattle.sja_bus.specs.Inside.StrikesByBit.{Scripted}
use Rattle.sja_bus.specs.Inside.Rows.{journals_of, untold_of}
use Rattle.sja_bus.specs.Inside.Whole.{IsWhole}
use Rattle.sja_bus_rules.specs.Reasons.{room_for}
use Rattle.sja_bus.specs.Inside.Refusing.{HaveRoom}
use Rattle.sja_bus.proofs.ItemsTaken.Refusing.{rooms_push}
use Rattle.sja_bus.proofs.WholeBus.Logs.{AreNew, new_push, new_journals, new_bus, none_untold}
use Rattle.sja_bus.proofs.bus.Bus.new.Goals as goal

pub loop-node-preserved : goal.loop-node-preserved
loop-node-preserved c =
    let n = c.loop-node.node in
    let made = c.in_ok-new.ensures in
    let P : List BusNode → Type 0 = λ l. AreNew (n + 1) l in
    let Q : List BusNode → Type 0 = λ l. HaveRoom (room_for c.args.bits c.args.steps.items) l in
    let count : length c.loop-node.bus_nodes.items ≡ n = search rules in
    let less : n < length c.args.steps.items = search rules in
    let here : c.index.result.now ≡ slice_index_or c.args.steps.items (length c.loop-node.bus_nodes.items) 0 =
    c.index.ensures ∙ or_same c.args.steps.items n c.index.result.now 0 less
    ∙ ap (λ (m : ℕ). slice_index_or c.args.steps.items m 0) (sym count) in
    let own = made.room ∙ ap (λ (m : ℕ). room_in c.args.bits m) here in
    record {
      count = search rules;
      room = search rules;
      made = rw c.push_reserved.ensures.items (new_push n c.loop-node.bus_nodes.items _ (search rules)
          (record { is_of = record { ready = made.ready; own = made.own }; empty = made.empty; nothing = made.untold })
          c.loop-node.invariant.made);
      rooms = subst Q (sym c.push_reserved.ensures.items)
          (rooms_push (room_for c.args.bits c.args.steps.items) c.loop-node.bus_nodes.items _ own
          c.loop-node.invariant.rooms);
    }

pub invariant_of-result : goal.invariant_of-result
invariant_of-result c =
    let bus_nodes = c.loop-node.bus_nodes.items in let logs = c.in_ok-logs.logs in
    let n : length bus_nodes ≡ length c.args.steps.items = search rules in
    let e : c.loop-node.node ≡ length bus_nodes = search rules in
    let new : AreNew (length bus_nodes) bus_nodes = subst (λ (m : ℕ). AreNew m bus_nodes) e c.loop-node.invariant.made
    in
    let room : length c.args.steps.items ≤ vec_capacity logs = search rules in
    let most = c.requires.bits.1 in let few = c.requires.nodes.1 in
    let P : Scripted → Type 0 = λ x. IsWhole x c.args.starts c.args.steps.items 0 c.args.bits None bus_nodes
    (vec_capacity
    logs) in (
      subst P (sym c.in_ok-struck.ensures) (record {
        few = omega (arith, n, few);
        bits = omega arith;
        most = most;
        asked = omega arith;
        bus = λ f. new_bus c.args.script bus_nodes new;
        begun = λ f k s few. let none = ap begun_in (new k s few).empty in omega (arith, none);
        logs = omega (arith, n, room);
        rooms = c.loop-node.invariant.rooms;
      }),
      (search rules),
    )

pub returns : goal.returns
returns c =
    let bus_nodes = c.loop-node.bus_nodes.items in
    let n : length bus_nodes ≡ length c.args.steps.items = search rules in
    let e : c.loop-node.node ≡ length bus_nodes = search rules in
    let new : AreNew (length bus_nodes) bus_nodes = subst (λ (m : ℕ). AreNew m bus_nodes) e c.loop-node.invariant.made
    in
    let empty : journals_of bus_nodes ≡ replicate (length c.args.steps.items) [] = new_journals bus_nodes
    (λ k s few. (new k s
    few).empty)
    ∙ ap (λ m. replicate m []) n in
    let told : untold_of bus_nodes ≡ replicate (length c.args.steps.items) false = none_untold bus_nodes
    (λ k s few. (new k s
    few).nothing)
    ∙ ap (λ m. replicate m false) n in
    let f : Scripted → BusValue = λ x. record {
      script = x.script;
      starts = c.args.starts;
      steps = c.args.steps.items;
      run = 0;
      left = c.args.bits;
      fault = None;
      journals =
          journals_of bus_nodes;
      untold = untold_of bus_nodes;
    } in
    let h : List (List Entry) → BusValue = λ l. record {
      script = c.args.script;
      starts = c.args.starts;
      steps = c.args.steps.items;
      run = 0;
      left = c.args.bits;
      fault =
          None;
      journals = l;
      untold = untold_of bus_nodes;
    } in
    let t : List Bool → BusValue = λ l. record {
      script = c.args.script;
      starts = c.args.starts;
      steps = c.args.steps.items;
      run = 0;
      left = c.args.bits;
      fault = None;
      journals = replicate (length c.args.steps.items) [];
      untold = l;
    } in
    ap f c.in_ok-struck.ensures ∙ ap h empty ∙ ap t told
