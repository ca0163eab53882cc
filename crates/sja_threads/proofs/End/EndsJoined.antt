-- The ends of the links of all nodes of a run whose threads are joined.
use Rattle.std.proofs.Common.{◌≡◌, ℕ, suc, ◌<◌, Option, Some, List, [], length, refl, sym, ap, ◌∙◌, subst, arith}
use Rattle.std.specs.Prelude.{slice_index_or}
use Rattle.std.proofs.lemmas.List.Elements.{AllZip-get_or}
use Rattle.std.proofs.lemmas.Slice.Zip.{AllZip-long}
use Rattle.rtrb.specs.Ring.{sent}
use Rattle.lemmas.specs.Related.{EachRelated}
use Rattle.lemmas.proofs.Lists.{some_of}
use Rattle.sja_journal.specs.Lists.{Lists}
use Rattle.sja_journal.specs.Accounts.{account}
use Rattle.sja_rings.specs.declared.node_bus.NodeBus.{NodeBus}
use Rattle.sja_rings.specs.declared.node_driver.NodeDriver.{NodeDriver}
use Rattle.sja_rings.specs.declared.ring_driver.RingDriver.{RingDriver}
use Rattle.sja_rings.specs.Ends.{SameDriver}
use Rattle.sja_rings.specs.NodeRings.{rings_of_driver, DriverListsAt, SameNodeBus, OneNode}
use Rattle.sja_rings.proofs.OnePair.{still_one_node}
use Rattle.sja_rings.proofs.RingsOfNode.{here}
use Rattle.sja_plan.specs.Plan.{PlanValue}
use Rattle.sja_driver.specs.TypedActs.{given_in, acts_of}
use Rattle.sja_journal.specs.declared.bus_fault.BusFault.{BusFault}
use Rattle.sja_threads.specs.declared.bus_thread.BusThread.{BusThread}
use Rattle.sja_threads.specs.declared.joined_run.JoinedRun.{JoinedRun}
use Rattle.sja_threads.specs.declared.thread_start.ThreadStart.{ThreadStart}
use Rattle.sja_threads.specs.declared.handover.Handover.{Handover}
use Rattle.sja_thread_promises.specs.Accessing.{Work, acts_done, work_at}
use Rattle.sja_thread_promises.specs.Stopping.{StopsOn, act_counts}
use Rattle.sja_threads.specs.Inside.EndsJoined.{AreJoined, AreGivenBy, IsStopped}
use Rattle.sja_threads.specs.Inside.JoinedRun.{IsEnding}
use Rattle.sja_threads.specs.Inside.Making.{IsMade, AreMade}
use Rattle.sja_threads.specs.Inside.Rounds.{Stops}
use Rattle.sja_threads.specs.Inside.Started.{Serves}
use Rattle.sja_threads.proofs.End.LinksOver.{as_many}
use Rattle.sja_threads.proofs.End.RunOver.{Done, Place, all_done, all_followed}
use Rattle.sja_threads.proofs.Start.NewEnds.{untouched}

module _ {G : Type 0} (Lets : G → ℕ → ℕ → ℕ → Type 0) (plan : PlanValue) (starts : List (ThreadStart G))
    (ws : List (Handover NodeDriver))
    (was : BusThread) (many : length starts ≡ length plan.nodes)
    (long : length was.links.items ≡ length plan.nodes)
    (made : AreMade plan (length plan.nodes) starts was.links.items)
    (served : EachRelated (Serves Lets plan) starts ws) (done : Done Lets plan starts ws) where
  place : (node : ℕ) → node < length plan.nodes → Place Lets plan starts ws done.works node
  place node few = done.places node (omega (arith, few, many))

  own : (node : ℕ) (b : NodeBus) (few : node < length plan.nodes) →
      IsMade plan node (place node few).start (slice_index_or was.links.items node b)
  own node b few = let p = place node few in
      subst (λ (x : ThreadStart G). IsMade plan node x (slice_index_or was.links.items node b)) (p.start_is p.start)
      (made node p.start b few)

  -- both ends of each node's links come from one pair
  pub ends_joined : (links : List NodeBus) → EachRelated SameNodeBus was.links.items links →
      AreJoined (length plan.nodes) links ws
  ends_joined links same = record {
    links_count = AllZip-long SameNodeBus was.links.items links same ∙ long;
    workeds_count = AllZip-long (Serves Lets plan) starts ws served ∙ many;
    pairs = λ node b w few.
        let p = place node few in
        subst (λ (x : Handover NodeDriver). OneNode (slice_index_or links node b) x.end) (sym (p.worked_is w))
        (still_one_node (slice_index_or was.links.items node b) (slice_index_or links node b) p.start.end p.worked.end
        (own node b few).ends.one
        (AllZip-get_or SameNodeBus was.links.items links node b b same (omega (arith, few, long))) p.serves.same);
  }

  -- and what went in at a driver's end is what it gave there
  pub ends_given : AreGivenBy (length plan.nodes) done.works ws
  ends_given node a w d few less =
      let p = place node few in
      let b = some_of was.links.items node (omega (arith, few, long)) in
      let ends = (own node b few).ends in
      let rings = rings_of_driver p.worked.end in
      let first = ends.is_bus.count in
      let second = as_many (slice_index_or was.links.items node b) p.start.end ends.one in
      let third = AllZip-long SameDriver (rings_of_driver p.start.end) rings p.serves.same.1 in
      let kept = p.serves.worked.holds [] (untouched [] p.start.end ends.driver_lists) in
      let given = given_in (acts_of (acts_done p.serves.worked.work) (suc a)) in
      let lists : Lists = account [] (suc a) (record { got = kept.got a; given = given }) in
      let there : DriverListsAt (Some (slice_index_or rings a d)) lists =
      subst (λ (o : Option RingDriver). DriverListsAt o lists)
      (here rings a (suc a) d refl (omega (arith, less, first, second, third))) (kept.kept a) in
      subst (λ (x : Handover NodeDriver). sent (slice_index_or (rings_of_driver x.end) a d).up
      ≡ given_in (acts_of (acts_done (work_at done.works node)) (suc a))) (sym (p.worked_is w))
      (subst (λ (x : Work). sent (slice_index_or rings a d).up ≡ given_in (acts_of (acts_done x) (suc a)))
      (sym p.work_is) there.1)

-- a bus that stopped beside its drivers' threads, once these are joined
pub stopped_beside : {G : Type 0} (Lets : G → ℕ → ℕ → ℕ → Type 0) (plan : PlanValue) (starts : List (ThreadStart G))
    (ws : List (Handover NodeDriver)) (was now : BusThread) (f : BusFault) → length starts ≡ length plan.nodes →
    length was.links.items ≡ length plan.nodes → AreMade plan (length plan.nodes) starts was.links.items →
    was.bus.steps ≡ act_counts plan → Stops plan was now f → EachRelated (Serves Lets plan) starts ws →
    IsStopped plan now.links.items ws f
stopped_beside {G} Lets plan starts ws was now f many long made room stops served =
    let done = all_done Lets plan starts ws served in
    let joined = ends_joined Lets plan starts ws was many long made served done now.links.items stops.sames in record {
      stop = subst (λ (steps : List ℕ). StopsOn steps plan now.links.items f) room stops.stop;
      works = done.works;
      follows = λ node few.
          let count = joined.workeds_count in
          let w = some_of ws 0 (omega (arith, few, count)) in
          (all_followed Lets plan starts ws was now many long made done node w few).follows;
      joined = joined;
      given = ends_given Lets plan starts ws was many long made served done;
    }

-- and one that stopped after them
pub stopped_after : (Lets : ℕ → ℕ → ℕ → Type 0) (plan : PlanValue) (j : JoinedRun) (now : BusThread) (f : BusFault) →
    IsEnding Lets plan j → Stops plan j.bus now f → IsStopped plan now.links.items j.workeds.items f
stopped_after Lets plan j now f ending stops =
    let joined = ending.joined now.links.items stops.sames in record {
      stop = subst (λ (steps : List ℕ). StopsOn steps plan now.links.items f) ending.steps stops.stop;
      works = ending.works;
      follows = λ node few.
          let count = joined.workeds_count in
          let w = some_of j.workeds.items 0 (omega (arith, few, count)) in (ending.followed node w few).follows;
      joined = joined;
      given = ending.given;
    }
