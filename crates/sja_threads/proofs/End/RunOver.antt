-- A run whose bus has come to its end and whose threads are joined is over.
use Rattle.std.proofs.Common.{◌≡◌, ℕ, zero, suc, ◌<◌, List, [], ◌∷◌, length, map, refl, sym, ap}
use Rattle.std.proofs.Common.{◌∙◌, subst, arith}
use Rattle.std.specs.Prelude.{Some, slice_index_or}
use Rattle.std.proofs.lemmas.List.{length-map}
use Rattle.std.proofs.lemmas.List.Elements.{AllZip-get_or}
use Rattle.std.proofs.lemmas.Slice.Zip.{AllZip-long}
use Rattle.sja_journal.specs.declared.entry.Entry.{Entry}
use Rattle.lemmas.specs.Related.{EachRelated}
use Rattle.lemmas.proofs.Lists.{some_of}
use Rattle.sja_rings.specs.declared.node_bus.NodeBus.{NodeBus}
use Rattle.sja_rings.specs.declared.node_driver.NodeDriver.{NodeDriver}
use Rattle.sja_rings.specs.NodeRings.{SameNodeBus}
use Rattle.sja_rings.proofs.OnePair.{still_one_node}
use Rattle.sja_regs.specs.DriverSettings.{settings_in}
use Rattle.sja_regs.specs.Registers.{at_power_on}
use Rattle.sja_plan.specs.Plan.{PlanValue, steps_at}
use Rattle.sja_driver.specs.LoggedDrivers.{log_of}
use Rattle.sja_driver.specs.Logs.{done_in}
use Rattle.sja_driver.specs.TypedActs.{TypedAct, acts_at}
use Rattle.sja_bus_rules.specs.Wire.{journal_at}
use Rattle.sja_threads.specs.declared.bus_thread.BusThread.{BusThread}
use Rattle.sja_threads.specs.declared.thread_start.ThreadStart.{ThreadStart}
use Rattle.sja_threads.specs.declared.handover.Handover.{Handover}
use Rattle.sja_thread_promises.specs.Accessing.{Work, Follows, acts_done, work_at}
use Rattle.sja_thread_promises.specs.Asking.{AtNode}
use Rattle.sja_thread_promises.specs.Stopping.{act_counts}
use Rattle.sja_threads.specs.Inside.Ended.{IsOver, IsOverAt}
use Rattle.sja_threads.specs.Inside.Making.{IsMade, AreMade}
use Rattle.sja_threads.specs.Inside.Names.{IsNamed, IsOrderOf}
use Rattle.sja_threads.specs.Inside.Started.{AreOrdered, Serves}
use Rattle.sja_threads.specs.Inside.JoinedRun.{HasFollowed}
use Rattle.sja_threads.specs.Inside.Rounds.{GoesOn}
use Rattle.sja_threads.proofs.Start.NewEnds.{untouched}
use Rattle.sja_threads.proofs.Twin.Named.{get_placed}

-- what stands at one place of both lists, and what that node's driver did
pub record Place {G : Type 0} (Lets : G → ℕ → ℕ → ℕ → Type 0) (plan : PlanValue) (starts : List (ThreadStart G))
    (ws : List (Handover NodeDriver)) (works : List Work) (i : ℕ) : Type 0 where
  pub start : ThreadStart G
  pub worked : Handover NodeDriver
  pub start_is : (x : ThreadStart G) → slice_index_or starts i x ≡ start
  pub worked_is : (y : Handover NodeDriver) → slice_index_or ws i y ≡ worked
  pub serves : Serves Lets plan start worked
  pub work_is : work_at works i ≡ serves.worked.work

pub record Done {G : Type 0} (Lets : G → ℕ → ℕ → ℕ → Type 0) (plan : PlanValue) (starts : List (ThreadStart G))
    (ws : List (Handover NodeDriver)) : Type 0 where
  pub works : List Work
  pub count : length works ≡ length starts
  pub places : (i : ℕ) → i < length starts → Place Lets plan starts ws works i

pub all_done : {G : Type 0} (Lets : G → ℕ → ℕ → ℕ → Type 0) (plan : PlanValue) (starts : List (ThreadStart G))
    (ws : List (Handover NodeDriver)) → EachRelated (Serves Lets plan) starts ws → Done Lets plan starts ws
all_done Lets plan [] [] p =
    record { works = []; count = refl; places = λ i less. absurd (omega (arith, less)) }
all_done Lets plan [] (w ∷ ws) p = absurd p
all_done Lets plan (s ∷ starts) [] p = absurd p
all_done {G} Lets plan (s ∷ starts) (w ∷ ws) p =
    let rest = all_done Lets plan starts ws p.1 in record {
      works = p.0.worked.work ∷ rest.works;
      count = ap suc rest.count;
      places = place rest;
    }
  where
    place : (rest : Done Lets plan starts ws) (i : ℕ) → i < suc (length starts) →
        Place Lets plan (s ∷ starts) (w ∷ ws) (p.0.worked.work ∷ rest.works) i
    place rest zero less = record {
      start = s;
      worked = w;
      start_is = λ x. refl;
      worked_is = λ y. refl;
      serves = p.0;
      work_is = refl;
    }
    place rest (suc i) less =
        let r = rest.places i (omega (arith, less)) in record {
          start = r.start;
          worked = r.worked;
          start_is = r.start_is;
          worked_is = r.worked_is;
          serves = r.serves;
          work_is = r.work_is;
        }

-- the acts of a node are those of what it did
pub acts_of_work : (works : List Work) (node : ℕ) →
    acts_at (map (λ (w : Work). acts_done w) works) node ≡ acts_done (work_at works node)
acts_of_work [] zero = refl
acts_of_work [] (suc node) = refl
acts_of_work (w ∷ works) zero = refl
acts_of_work (w ∷ works) (suc node) = acts_of_work works node

module _ {G : Type 0} (Lets : G → ℕ → ℕ → ℕ → Type 0) (plan : PlanValue) (starts : List (ThreadStart G))
    (ws : List (Handover NodeDriver)) (was now : BusThread) (many : length starts ≡ length plan.nodes)
    (long : length was.links.items ≡ length plan.nodes)
    (made : AreMade plan (length plan.nodes) starts was.links.items) where
  -- one node
  over_at : GoesOn plan was now → (node : ℕ) (b : NodeBus) (s : ThreadStart G) (w : Handover NodeDriver)
      (acts : List TypedAct) → node < length plan.nodes → IsMade plan node s (slice_index_or was.links.items node b) →
      (v : Serves Lets plan s w) → acts ≡ acts_done v.worked.work →
      IsOverAt (settings_in (at_power_on plan.version)) node (journal_at now.bus.journals node) acts w
      (slice_index_or now.links.items node b)
  over_at on node b s w acts few m v is = record {
    own = v.worked.own ∙ m.own;
    lawful = v.worked.lawful;
    keeps = v.keeps;
    leads = rw is v.worked.leads;
    traces = rw is v.worked.traces;
    drivers = rw is (v.worked.holds j (untouched j s.end m.ends.driver_lists));
    buses = λ h. on.way.kept node b h few;
    pair = still_one_node (slice_index_or was.links.items node b) (slice_index_or now.links.items node b) s.end w.end
        m.ends.one
        (AllZip-get_or SameNodeBus was.links.items now.links.items node b b on.sames (omega (arith, few, long))) v.same;
    none = on.way.none node few;
  }
    where
      j : List Entry
      j = journal_at now.bus.journals node

  -- what the thread of a node began with
  place : (done : Done Lets plan starts ws) (node : ℕ) → node < length plan.nodes →
      Place Lets plan starts ws done.works node
  place done node few = done.places node (omega (arith, few, many))

  own : (done : Done Lets plan starts ws) (node : ℕ) (b : NodeBus) (few : node < length plan.nodes) →
      IsMade plan node (place done node few).start (slice_index_or was.links.items node b)
  own done node b few =
      let p = place done node few in
      subst (λ (x : ThreadStart G). IsMade plan node x (slice_index_or was.links.items node b)) (p.start_is p.start)
      (made node p.start b few)

  -- all of them
  pub is_over : GoesOn plan was now → was.bus.steps ≡ act_counts plan → EachRelated (Serves Lets plan) starts ws →
      (done : Done Lets plan starts ws) →
      IsOver plan now.bus now.links.items ws (map (λ (w : Work). acts_done w) done.works)
  is_over on room served done = record {
    right = on.way.right;
    script = on.way.script;
    all_bits = on.way.all_bits;
    steps = on.steps ∙ room;
    journals_count = on.way.journals;
    links_count = on.way.ends.count;
    workeds_count = AllZip-long (Serves Lets plan) starts ws served ∙ many;
    acts_count = length-map done.works (λ (w : Work). acts_done w) ∙ done.count ∙ many;
    nodes = λ node b w few.
        let p = place done node few in
        let acts = acts_at (map (λ (x : Work). acts_done x) done.works) node in
        subst (λ (x : Handover NodeDriver). IsOverAt (settings_in (at_power_on plan.version)) node
        (journal_at now.bus.journals node) acts x (slice_index_or now.links.items node b)) (sym (p.worked_is w))
        (over_at on node b p.start p.worked acts few (own done node b few) p.serves
        (acts_of_work done.works node ∙ ap (λ (x : Work). acts_done x) p.work_is));
  }

  -- and each did what it did of its script, as its gate let it
  pub all_followed : (done : Done Lets plan starts ws) (node : ℕ) (w : Handover NodeDriver) →
      node < length plan.nodes →
      HasFollowed (AtNode Lets (map (λ (s : ThreadStart G). s.gate) starts)) plan node (work_at done.works node)
      (slice_index_or ws node w)
  all_followed done node w few =
      let p = place done node few in
      let b = some_of was.links.items node (omega (arith, few, long)) in
      let made_so = own done node b few in
      let gates : List G = map (λ (s : ThreadStart G). s.gate) starts in
      subst (λ (x : Handover NodeDriver). HasFollowed (AtNode Lets gates) plan node (work_at done.works node) x)
      (sym (p.worked_is w))
      (subst (λ (x : Work). HasFollowed (AtNode Lets gates) plan node x p.worked) (sym p.work_is)
      (record {
        follows =
            subst (λ (n : ℕ). Follows plan.version (settings_in (at_power_on plan.version)) (steps_at plan n)
            p.serves.worked.work) made_so.own p.serves.worked.follows;
        done = p.serves.worked.done;
        noted = p.serves.worked.noted;
        all = (
          p.start.gate,
          get_placed (λ (s : ThreadStart G). s.gate) starts node p.start (omega (arith, few, many))
              ∙ ap (λ (x : ThreadStart G). Some x.gate) (p.start_is p.start),
          subst (λ (n : ℕ). Lets p.start.gate n (length (steps_at plan n)) (length (done_in (log_of p.worked.driver))))
              made_so.own p.serves.all,
        );
      }))

  -- and has its node's list of acts
  pub all_named : (order_version : ℕ) (names : List ℕ) → AreOrdered order_version names plan.version starts →
      (done : Done Lets plan starts ws) (node : ℕ) (w : Handover NodeDriver) → node < length plan.nodes →
      IsNamed names node (slice_index_or ws node w).done.name
  all_named order_version names ordered done node w few =
      let p = place done node few in
      let b = some_of was.links.items node (omega (arith, few, long)) in
      let made_so = own done node b few in
      let order : IsOrderOf order_version names plan.version p.start.node p.start.done.name =
      subst (λ (x : ThreadStart G). IsOrderOf order_version names plan.version x.node x.done.name) (p.start_is p.start)
      (ordered node p.start (omega (arith, few, many))) in
      subst (λ (x : Handover NodeDriver). IsNamed names node x.done.name) (sym (p.worked_is w))
      (subst (λ (n : ℕ). IsNamed names node n) (sym p.serves.named)
      (subst (λ (n : ℕ). IsNamed names n p.start.done.name) made_so.own order.1))
