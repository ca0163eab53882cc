-- A link of a run in threads that isn't settled.
use Rattle.std.proofs.Common.{◌≡◌, ℕ, ◌<◌, List, length, sym, subst, arith, inl, inr}
use Rattle.std.specs.Prelude.{◌⊎◌, Result, Ok, Err, IfErr, slice_index_or}
use Rattle.lemmas.proofs.Lists.{some_of}
use Rattle.sja_rings.specs.declared.node_bus.NodeBus.{NodeBus}
use Rattle.sja_rings.specs.declared.node_driver.NodeDriver.{NodeDriver}
use Rattle.sja_rings.specs.Ends.{OneLink}
use Rattle.sja_rings.specs.NodeRings.{rings_of_bus, rings_of_driver}
use Rattle.sja_regs.specs.DriverSettings.{settings_in}
use Rattle.sja_regs.specs.Registers.{at_power_on}
use Rattle.sja_plan.specs.Plan.{PlanValue, steps_at}
use Rattle.sja_log.specs.declared.run_fault.RunFault.{RunFault}
use Rattle.sja_log.specs.declared.run_fault.RunFault.TheVariants.{Memory, Unsettled}
use Rattle.sja_threads.specs.declared.handover.Handover.{Handover}
use Rattle.sja_thread_promises.specs.Accessing.{Work, Follows, work_at}
use Rattle.sja_thread_promises.specs.Gathering.{AreBusEnds}
use Rattle.sja_thread_promises.specs.Stopping.{IsFaultOf, IsUnsettled}
use Rattle.sja_threads.specs.Inside.EndsJoined.{AreJoined, AreGivenBy}
use Rattle.sja_threads.specs.Inside.Settling.{LeavesUnsettled, SomeUnsettled, all_ends}
use Rattle.sja_threads.proofs.End.GoneThrough.{related_at}
use Rattle.sja_threads.proofs.End.LinksOver.{end_at, some_ring}

-- it is that of a node and an activation, at which the node's driver gave what it gave
pub unsettled_run : (plan : PlanValue) (links : List NodeBus) (workeds : List (Handover NodeDriver))
    (works : List Work) → AreBusEnds (length plan.nodes) links → AreJoined (length plan.nodes) links workeds →
    AreGivenBy (length plan.nodes) works workeds → ((node : ℕ) → node < length plan.nodes →
    Follows plan.version (settings_in (at_power_on plan.version)) (steps_at plan node) (work_at works node)) →
    SomeUnsettled links (all_ends workeds) → IsUnsettled plan
unsettled_run plan links workeds works ends joined given follows s =
    let node = s.node in let some = s.few in let count = ends.count in
    let few : node < length plan.nodes = omega (arith, some, count) in
    let many = joined.workeds_count in
    let w = some_of workeds node (omega (arith, few, many)) in
    let b = some_of links node some in
    let bus = slice_index_or links node b in let driver = (slice_index_or workeds node w).end in
    let one = joined.pairs node b w few in
    let is = ends.each node b few in
    let u : LeavesUnsettled bus driver =
    subst (λ (d : NodeDriver). LeavesUnsettled bus d)
    (end_at (length plan.nodes) links workeds joined node w driver few) (s.why b driver) in
    let there = u.few in
    let x = some_of (rings_of_bus bus) u.place there in
    let y = some_ring bus driver one (omega (arith, there)) in
    let less : u.place < 64 = let rings = is.count in omega (arith, there, rings) in record {
      node = node;
      place = u.place;
      in_plan = few;
      few = less;
      bus = slice_index_or (rings_of_bus bus) u.place x;
      driver = slice_index_or (rings_of_driver driver) u.place y;
      link = is.links u.place x less;
      one = related_at OneLink (rings_of_bus bus) (rings_of_driver driver) one.1 u.place x y there;
      why = u.why x y;
      work = work_at works node;
      follows = follows node few;
      given = given node u.place w y few less;
    }

-- what is answered for want of a log
pub fault_of : (plan : PlanValue) {S : Type 0} → (S → IsUnsettled plan) → {A : Type 0} (r : Result A RunFault) →
    IfErr r (λ f. (f ≡ Memory) ⊎ ((f ≡ Unsettled) × S)) → IfErr r (IsFaultOf plan)
fault_of plan {S} to (Ok a) h = tt
fault_of plan {S} to (Err f) h = elim h [
  | inl memory ↦ subst (IsFaultOf plan) (sym memory) tt
  | inr left ↦ subst (IsFaultOf plan) (sym left.0) (to left.1)
]
