use Rattle.std.proofs.Common.{rules, ◌≡◌, ◌≤◌, length, map, vec_len, refl, sym, ap, ◌∙◌, arith}
use Rattle.std.specs.Prelude.{vec_capacity}
use Rattle.std.proofs.lemmas.List.{length-map}
use Rattle.std.proofs.lemmas.Slice.Zip.{AllZip-long}
use Rattle.sja_bus_rules.specs.Buses.{BusValue}
use Rattle.sja_thread_promises.specs.Asking.{IsLet}
use Rattle.sja_thread_promises.specs.Stopping.{act_counts}
use Rattle.sja_threads.specs.Inside.Promised.{IsFor, StopsFor}
use Rattle.sja_bus_rules.specs.Wire.{journal_at}
use Rattle.sja_bus_rules.proofs.Wires.{no_journal}
use Rattle.sja_thread_promises.specs.Ordering.{closed_told}
use Rattle.sja_threads.specs.Inside.Boards.{turns_in}
use Rattle.sja_threads.proofs.End.EndsJoined.{stopped_beside}
use Rattle.sja_threads.proofs.End.RunOver.{all_done, all_named}
use Rattle.sja_threads.proofs.End.ThreadedRun.{ending}
use Rattle.sja_threads.proofs.Rounds.Told.{none_at, told_first}
use Rattle.sja_threads.proofs.Start.Begins.{begins}
use Rattle.sja_threads.proofs.Start.Threads.{all_starts, all_kept}
use Rattle.sja_threads.proofs.run.run_in.Given.{Over}
use Rattle.sja_threads.proofs.run.run_in.Goals.{In-Ok, In-Err}
use Rattle.sja_threads.proofs.run.run_in.Goals as goal

pub invariant_of-board : goal.invariant_of-board
invariant_of-board g c =
    let told = c.requires.told.0 in
    let ports = c.requires.ports.0 in
    let few = c.requires.ports.1 in record { many = omega (arith, told, ports); few = omega (arith, told, few) }

pub start_all-requires-clause-starts : goal.start_all-requires-clause-starts
start_all-requires-clause-starts g c κs within =
    let parts = c.args.parts in
    let r = c.requires.parts in
    all_starts c.args.plan.now parts.starts.items parts.bus.links.items r.starts r.links r.made

pub rounds_beside_drivers-requires-clause-way : goal.rounds_beside_drivers-requires-clause-way
rounds_beside_drivers-requires-clause-way g c =
    let parts = c.args.parts in
    let r = c.requires.parts in
    begins c.args.plan.now parts.bus parts.starts.items (act_counts c.args.plan.now) r.bus r.links r.run r.spent
    r.starts r.made

pub returns-in-Ok-rounds_beside_drivers-clause-ending : goal.returns-in-Ok-rounds_beside_drivers-clause-ending
returns-in-Ok-rounds_beside_drivers-clause-ending g c =
    let plan = c.args.plan.now in
    let parts = c.args.parts in
    let starts = parts.starts.items in
    let r = c.requires.parts in
    ending (IsLet g.G.Gate.QUITS g.G.Gate.answered) plan starts parts.bus c.rounds_beside_drivers.new.self
    c.join_all-workeds.result.items _ refl refl
    r.starts r.links r.made c.in-Ok-rounds_beside_drivers.ensures.on (ap (λ (b : BusValue). b.steps) r.bus)
    (all_kept (IsLet g.G.Gate.QUITS g.G.Gate.answered) plan starts (map (λ child. child.promise) c.in-Ok.children.items)
    c.join_all-workeds.result.items c.in-Ok.ensures.all c.join_all-workeds.ensures)

-- the bus stopped, whatever the threads hand back
stops_for : (g : Over) (c : In-Err g) → StopsFor (IsLet g.G.Gate.QUITS g.G.Gate.answered) c.args.plan.now
    c.rounds_beside_drivers.new.self.links.items (map (λ child. child.promise) c.in-Ok.children.items)
    c.in-Err.stop
stops_for g c = λ ws kept.
    let plan = c.args.plan.now in
    let parts = c.args.parts in
    let r = c.requires.parts in
    stopped_beside (IsLet g.G.Gate.QUITS g.G.Gate.answered) plan parts.starts.items ws parts.bus
    c.rounds_beside_drivers.new.self
    c.in-Err.stop r.starts r.links r.made (ap (λ (b : BusValue). b.steps) r.bus)
    c.in-Err.ensures.fault
    (all_kept (IsLet g.G.Gate.QUITS g.G.Gate.answered) plan parts.starts.items
    (map (λ child. child.promise) c.in-Ok.children.items) ws
    c.in-Ok.ensures.all kept)

-- there is room for what they hand back
room_for_all : (g : Over) (c : In-Ok g) → vec_len c.in-Ok.children ≤ vec_capacity c.args.parts.workeds
room_for_all g c =
    let starts = c.args.parts.starts.items in
    let children = c.in-Ok.children.items in
    let each = AllZip-long (IsFor c.args.plan.now) starts (map (λ child. child.promise) children)
    c.in-Ok.ensures.all in
    let all = length-map children (λ child. child.promise) in
    let many = c.requires.parts.starts in
    let room = c.requires.parts.workeds.0 in
    let own : vec_len c.in-Ok.children ≡ length children = search rules in
    omega (arith, each, all, many, room, own)

pub join_all-workeds-requires-clause-room : goal.join_all-workeds-requires-clause-room
join_all-workeds-requires-clause-room g c κs within =
    room_for_all g (goal.at.join_all-workeds-requires-clause-room g c).In-Ok

pub stop_run-requires-clause-room : goal.stop_run-requires-clause-room
stop_run-requires-clause-room g c κs within = room_for_all g (goal.at.stop_run-requires-clause-room g c).In-Ok

pub stop_run-requires-clause-stops : goal.stop_run-requires-clause-stops
stop_run-requires-clause-stops g c κs within = (
  c.args.plan.now,
  stops_for g (goal.at.stop_run-requires-clause-stops g c).In-Err,
)

pub returns-in-Err-clause-fault : goal.returns-in-Err-clause-fault
returns-in-Err-clause-fault g c =
    c.stop_run.ensures c.args.plan.now
    (stops_for g (goal.at.returns-in-Err-clause-fault g c).In-Err)

pub returns-in-Ok-rounds_beside_drivers-clause-order : goal.returns-in-Ok-rounds_beside_drivers-clause-order
returns-in-Ok-rounds_beside_drivers-clause-order g c =
    let plan = c.args.plan.now in
    let parts = c.args.parts in
    let starts = parts.starts.items in
    let r = c.requires.parts in
    let served = all_kept (IsLet g.G.Gate.QUITS g.G.Gate.answered) plan starts
    (map (λ child. child.promise) c.in-Ok.children.items)
    c.join_all-workeds.result.items c.in-Ok.ensures.all c.join_all-workeds.ensures in record {
      told = c.in-Ok-rounds_beside_drivers.ensures.told
          (told_first plan parts.bus.bus.journals (turns_in c.args.told.items)
          (λ node. ap (λ (b : BusValue). journal_at b.journals node) r.bus ∙ no_journal (length plan.nodes) node)
          (none_at c.args.told.items c.requires.told.1));
      many = c.rounds_beside_drivers.ensures.ports ∙ c.requires.told.0;
      closed = c.in-Ok-rounds_beside_drivers.ensures.closed
          (λ node few. ap closed_told (none_at c.args.told.items c.requires.told.1 node) ∙ sym r.spent);
      ended = c.in-Ok-rounds_beside_drivers.ensures.ended;
      named = all_named (IsLet g.G.Gate.QUITS g.G.Gate.answered) plan starts c.join_all-workeds.result.items parts.bus
          c.rounds_beside_drivers.new.self
          r.starts r.links r.made g.N.Order.version g.N.Order.acts c.requires.order
          (all_done (IsLet g.G.Gate.QUITS g.G.Gate.answered) plan starts c.join_all-workeds.result.items served);
    }
