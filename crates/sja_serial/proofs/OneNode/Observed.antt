-- A run in which what has come for one node's driver was taken in, and no step was tried.
use Rattle.std.proofs.Common.{◌≡◌, ◌≢◌, ◌<◌, ℕ, List, length, refl, sym, ap}
use Rattle.std.proofs.Common.{◌∙◌, subst, append-nil, arith, inl, inr}
use Rattle.std.specs.Prelude.{slice_index_or, slice_set, None}
use Rattle.std.proofs.lemmas.Bool.{cases_eq}
use Rattle.std.proofs.lemmas.List.{get_or-set_same, get_or-set_other, length-set}
use Rattle.lemmas.proofs.Related.{each_one}
use Rattle.sja_journal.specs.declared.entry.Entry.{Entry}
use Rattle.sja_journal.specs.Sizes.{most_activations}
use Rattle.sja_link.specs.Deques.{Deques, Lies, AreAlike, IsDryDown}
use Rattle.sja_journal.specs.Lists.{OthersStand}
use Rattle.sja_bus_rules.specs.Lawful.{IsBusRun}
use Rattle.sja_bus_rules.specs.Wire.{journal_at}
use Rattle.sja_bus_rules.specs.Buses.{BusValue}
use Rattle.sja_regs.specs.declared.registers.Registers.{Registers}
use Rattle.sja_steps.specs.declared.step.Step.TheVariants.{Read}
use Rattle.sja_driver.specs.declared.any_driver.AnyDriver.{AnyDriver}
use Rattle.sja_driver.specs.declared.any_driver.AnyDriver.TheVariants.{InReset, InActive}
use Rattle.sja_driver.specs.declared.logged_driver.LoggedDriver.{LoggedDriver}
use Rattle.sja_driver.specs.AnyDrivers.{held_of, is_out, link_used, off_of, seen_by, IsDriverOf}
use Rattle.sja_driver.specs.TypedActs.{TypedAct, acts_at, is_active}
use Rattle.sja_driver.specs.Holding.{HoldsBy}
use Rattle.sja_driver.specs.LoggedDrivers.{node_of, driver_of, log_of, ended_of, StaysLawful}
use Rattle.sja_driver.specs.declared.work_log.WorkLog.{WorkLog}
use Rattle.sja_driver.specs.Logs.{Traces, release_room, left_room}
use Rattle.sja_driver.specs.Observing.{Looked, Observes}
use Rattle.sja_promises.specs.Registering.{seen_now}
use Rattle.sja_promises.proofs.Account.Seeing.{seen_shown}
use Rattle.sja_driver.proofs.Trace.Stepping.{given_taken}
use Rattle.sja_promises.specs.Nodes.{IsNode}
use Rattle.sja_serial.specs.Serial.{Setup, StandsAt}
use Rattle.sja_serial.specs.Inside.SerialProgress.{run_now}
use Rattle.sja_promises.proofs.OneNode.Gathered.{linked_after, node_with}
use Rattle.sja_serial.proofs.OneNode.Standing.{owners}
use Rattle.sja_serial.proofs.OneNode.Alike.{alike_refl, still_ends, still_starts}
use Rattle.sja_promises.proofs.OneNode.StepTried.{looked}

module _ {setup : Setup} {bus : BusValue} {drivers : List LoggedDriver} {ports : List Registers}
    {slice : List Deques} {bits : ℕ} {acts : List (List TypedAct)}
    (h : StandsAt setup (run_now bus drivers ports slice bits) acts) {i : ℕ} (there : i < setup.nodes)
    {was now : LoggedDriver} (was_is : was ≡ slice_index_or drivers i was)
    {old given : Deques} (old_is : old ≡ slice_index_or slice i old)
    (observed : Looked Lies IsDryDown was now old given)
    (stays : StaysLawful AreAlike Lies was now old given None) where
  abbrev j : List Entry
  j = journal_at bus.journals i

  abbrev ds : List TypedAct
  ds = acts_at acts i

  abbrev after : List Deques
  after = slice_set slice i given

  -- ---- the node

  stood : (p : Registers) → IsNode setup.version (slice_index_or setup.steps i 0) j ds was
      (slice_index_or ports i p) old
  stood p =
      let N : LoggedDriver → Deques → Type 0 = λ d l. IsNode setup.version (slice_index_or setup.steps i 0) j ds d
      (slice_index_or ports i p) l in
      subst (λ d. N d old) (sym was_is)
      (subst (λ l. N (slice_index_or drivers i was) l) (sym old_is) (h.nodes i was p old there))

  traces : (p : Registers) → Traces setup.version (driver_of now) (log_of now) ds
  traces p = subst (Traces setup.version (driver_of now) (log_of now)) (append-nil ds)
      ((observed.goes setup.version).traces ds (stood p).traced.traces)

  holds : (p : Registers) → HoldsBy Lies ds (driver_of now) (log_of now) j given
  holds p = subst (λ (l : List TypedAct). HoldsBy Lies l (driver_of now) (log_of now) j given) (append-nil ds)
      ((observed.goes setup.version).holds ds j (stood p).traced.traces (stood p).linked.holds)

  node_now : (p : Registers) → IsNode setup.version (slice_index_or setup.steps i 0) j ds now
      (slice_index_or ports i p) given
  node_now p = let n = stood p in
      node_with n (record {
        lawful = stays.lawful;
        traces = traces p;
        within = n.traced.within;
        room = λ k l. stays.waits refl setup.version k (n.traced.room k l);
        made_for = ap (λ (l : WorkLog). release_room l) observed.log ∙ n.traced.made_for;
        activations = ap (λ (l : WorkLog). left_room l) observed.log ∙ n.traced.activations;
      })
      (linked_after now (holds p) (λ acc x. x) (λ a. given_taken ds j a (n.in_time.when a)) n.linked.level)

  -- ---- and each other one

  inside : i < length drivers
  inside = let c = h.count.drivers in omega (arith, c, there)

  links_inside : i < length slice
  links_inside = let c = h.ends.count in omega (arith, c, there)

  node_at : (m : ℕ) (d : LoggedDriver) (p : Registers) (l : Deques) → m < setup.nodes →
      IsNode setup.version (slice_index_or setup.steps m 0) (journal_at bus.journals m) (acts_at acts m)
      (slice_index_or (slice_set drivers i now) m d) (slice_index_or ports m p) (slice_index_or after m l)
  node_at m d p l less =
      let N : ℕ → LoggedDriver → Deques → Type 0 = λ k x s. IsNode setup.version (slice_index_or setup.steps k 0)
      (journal_at bus.journals k) (acts_at acts k) x (slice_index_or ports k p) s in
      elim (cases_eq i m) [
        | inl e ↦
            let P : ℕ → Type 0 = λ k. N k (slice_index_or (slice_set drivers i now) k d) (slice_index_or after k l) in
            subst P e (subst (λ x. N i x (slice_index_or after i l)) (sym (get_or-set_same drivers i now d inside))
            (subst (λ s. N i now s) (sym (get_or-set_same slice i given l links_inside)) (node_now p)))
        | inr differ ↦
            let other : m ≢ i = λ e. differ (sym e) in
            subst (λ x. N m x (slice_index_or after m l)) (sym (get_or-set_other drivers i m now d other))
            (subst (λ s. N m (slice_index_or drivers m d) s) (sym (get_or-set_other slice i m given l other))
            (h.nodes m d p l less))
      ]

  pub stands : StandsAt setup (run_now bus (slice_set drivers i now) ports after bits) acts
  stands =
      let sames = each_one AreAlike alike_refl slice i old given links_inside
      (subst (λ (s : Deques). AreAlike s given) old_is stays.same) in record {
        right = h.right;
        script = h.script;
        all_bits = h.all_bits;
        bits = h.bits;
        count = record {
          journals = h.count.journals;
          drivers = length-set drivers i now ∙ h.count.drivers;
          ports = h.count.ports;
        };
        acts_count = h.acts_count;
        may = h.may;
        steps = h.steps;
        links = h.links;
        ends = still_ends h.ends sames;
        starts = still_starts (most_activations setup.version) slice after h.starts sames;
        own = owners now h there was_is stays.node;
        nodes = node_at;
        shown = h.shown;
      }

  -- ---- what the driver sees

  module _ (lawful : IsBusRun bus.script bus.run bus.journals) where
    journal_in : i < length bus.journals
    journal_in = let c = h.count.journals in omega (arith, c, there)

    pub seen_is : (p : Registers) → seen_by (driver_of now) ≡ seen_now (is_active ds) j ds
    seen_is p = by (driver_of was) (driver_of now) (stood p).traced.traces.out observed.observes refl
      where
        by : (w n : AnyDriver) → is_active ds ≡ is_out w → Observes Lies IsDryDown old given w n → driver_of was ≡ w →
            seen_by n ≡ seen_now (is_active ds) j ds
        by (InReset d) n out (same, kept) is =
            ap seen_by same ∙ ap (λ b. seen_now b j ds) (sym out)
        by (InActive d) (InReset e) out looks is = absurd looks
        by (InActive d) (InActive e) out looks is =
            let w : AnyDriver = InActive d in let n : AnyDriver = InActive e in
            let shown = looked j ds (log_of was) old (node_of was) (lawful.lawful i journal_in)
            (stood p).linked.level.begun (λ a. given_taken ds j a ((stood p).in_time.when a)) w refl
            (subst (λ (x : AnyDriver). Traces setup.version x (log_of was) ds) is (stood p).traced.traces)
            (subst (λ (x : AnyDriver). IsDriverOf (node_of was) (ended_of was) x) is (stood p).traced.lawful.own)
            (subst (λ (x : AnyDriver). HoldsBy Lies ds x (log_of was) j old) is (stood p).linked.holds)
            (held_of n) (off_of n) (record {
              at = given;
              same = (stays.same, subst (λ (x : AnyDriver). OthersStand Lies (link_used x) old given) is stays.others);
              pulls = looks.got;
              all = looks.all;
            }) in
            sym (seen_shown j ds (Read 0) (off_of n) (held_of n) tt shown)
            ∙ ap (λ b. seen_now b j ds) (sym out)
