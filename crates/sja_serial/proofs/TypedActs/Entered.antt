-- A step of a driver that is entered as done, once its acts are.
use Rattle.std.proofs.Common.{◌≡◌, ◌+◌, ◌<◌, ◌++◌, ℕ, zero, suc, List, [], ◌∷◌}
use Rattle.std.proofs.Common.{length}
use Rattle.std.proofs.Common.{sym, ap, ◌∙◌, subst, arith, inl, inr}
use Rattle.std.proofs.lemmas.Bool.{cases_eq}
use Rattle.std.proofs.lemmas.List.{get_or-set_other, get_or-set_same, length-map}
use Rattle.std.proofs.lemmas.List.{length-set}
use Rattle.std.proofs.lemmas.List.{map-append}
use Rattle.std.specs.Prelude.{slice_index_or, slice_set}
use Rattle.sja_journal.specs.declared.entry.Entry.{Entry}
use Rattle.sja_link.specs.Deques.{Deques}
use Rattle.sja_journal.specs.Places.{place_of}
use Rattle.sja_journal.specs.BoundedHistories.{HistoryValue}
use Rattle.sja_bus_rules.specs.Wire.{journal_at}
use Rattle.sja_regs.specs.declared.registers.Registers.{Registers}
use Rattle.sja_steps.specs.declared.step_answer.StepAnswer.{StepAnswer}
use Rattle.sja_driver.specs.declared.unmodelled_registers.UnmodelledRegisters.{UnmodelledRegisters}
use Rattle.sja_driver.specs.declared.logged_driver.LoggedDriver.{LoggedDriver}
use Rattle.sja_driver.specs.declared.work_log.WorkLog.{WorkLog}
use Rattle.sja_driver.specs.StepRuns.{StepRun, IsStepRun, step_runs_at, acts_in, step_record_of}
use Rattle.sja_driver.specs.TypedActs.{TypedAct, acts_at, is_active, with_acts}
use Rattle.sja_driver.specs.LoggedDrivers.{kept_of, log_of, node_of}
use Rattle.sja_driver.specs.Logs.{done_in, done_room}
use Rattle.sja_promises.specs.Nodes.{IsNode}
use Rattle.sja_journal.specs.BitEntries.{HasMore}
use Rattle.sja_steps.specs.declared.step_record.StepRecord.{StepRecord}
use Rattle.sja_steps.specs.declared.step.Step.{Step}
use Rattle.sja_promises.specs.Registering.{StepRunsLeadTo, LeadOn, seen_now}
use Rattle.sja_promises.specs.Registering.StepRunsLeadTo.{step_run}
use Rattle.sja_serial.specs.Inside.Accessing.{DoesActs, Enters}
use Rattle.sja_serial.specs.Serial.{Setup, SerialValue, StandsAt, StandsBy, HasStepRuns, all_acts, most_steps}
use Rattle.sja_serial.specs.Stepping.{DoesStep, with_step_runs}
use Rattle.sja_promises.proofs.Trace.StepRunActs.{acts_push}

-- the acts with one step more
all_with : (step_runs : List (List StepRun)) (node : ℕ) (a : StepRun) → node < length step_runs →
    all_acts (with_step_runs step_runs node (a ∷ [])) ≡ with_acts (all_acts step_runs) node a.acts
all_with [] node a less = absurd (omega (arith, less))
all_with (l ∷ step_runs) zero a less = ap (λ x. x ∷ all_acts step_runs) (acts_push l a)
all_with (l ∷ step_runs) (suc node) a less = ap (λ x. acts_in l ∷ x) (all_with step_runs node a (omega (arith, less)))

-- ---- a run whose driver of one node has another log of what is done, and other kept bytes

-- what is said of a node doesn't hang on them
node_entered : {version size : ℕ} {j : List Entry} {acts : List TypedAct} {p : Registers} {links : Deques}
    (was : LoggedDriver) (log : WorkLog) (kept : UnmodelledRegisters) → IsNode version size j acts was p links →
    IsNode version size j acts (record was { kept = kept; log = record (log_of was) { done = log.done } }) p links
node_entered was log kept h = record {
  traced = record {
    lawful = record { own = h.traced.lawful.own; few = h.traced.lawful.few };
    traces = record {
      released = h.traced.traces.released;
      opened = h.traced.traces.opened;
      out = h.traced.traces.out;
      answered = h.traced.traces.answered;
    };
    within = h.traced.within;
    room = λ k few. let room = h.traced.room k few in record { releases = room.releases; left = room.left };
    made_for = h.traced.made_for;
    activations = h.traced.activations;
  };
  linked = record { holds = h.linked.holds; taken = h.linked.taken; level = h.linked.level };
  ported = h.ported;
  asked = h.asked;
  counted = h.counted;
  done = h.done;
  in_time = h.in_time;
  registers = h.registers;
}

module _ {setup : Setup} {mid now : SerialValue} {node : ℕ} {answer : StepAnswer} {kept : UnmodelledRegisters}
    (there : node < setup.nodes) (e : Enters mid now node answer kept) where
  module _ {acts : List (List TypedAct)} (h : StandsAt setup mid acts) where
    few : node < length mid.drivers
    few = let c = h.count.drivers in omega (arith, c, there)

    each : (m : ℕ) (d : LoggedDriver) (p : Registers) (l : Deques) → m < setup.nodes →
        IsNode setup.version (slice_index_or setup.steps m 0) (journal_at mid.bus.journals m) (acts_at acts m)
        (slice_index_or (slice_set mid.drivers node e.driver) m d) (slice_index_or mid.ports m p)
        (slice_index_or mid.links m l)
    each m d p l less = elim (cases_eq node m) [
      | inl same ↦
          let N : ℕ → LoggedDriver → Type 0 = λ k x. IsNode setup.version (slice_index_or setup.steps k 0)
          (journal_at mid.bus.journals k) (acts_at acts k) x (slice_index_or mid.ports k p)
          (slice_index_or mid.links k l) in
          subst (λ (k : ℕ). N k (slice_index_or (slice_set mid.drivers node e.driver) k d)) same
          (subst (N node) (sym (get_or-set_same mid.drivers node e.driver d few))
          (subst (N node) (sym (e.is d))
          (node_entered (slice_index_or mid.drivers node d) (log_of e.driver) kept (h.nodes node d p l there))))
      | inr differ ↦
          subst (λ (x : LoggedDriver). IsNode setup.version (slice_index_or setup.steps m 0)
          (journal_at mid.bus.journals m) (acts_at acts m) x (slice_index_or mid.ports m p)
          (slice_index_or mid.links m l))
          (sym (get_or-set_other mid.drivers node m e.driver d (λ s. differ (sym s)))) (h.nodes m d p l less)
    ]

    owner : (m : ℕ) (d : LoggedDriver) → m < setup.nodes →
        node_of (slice_index_or (slice_set mid.drivers node e.driver) m d) ≡ m
    owner m d less = elim (cases_eq node m) [
      | inl same ↦ subst (λ (k : ℕ). node_of (slice_index_or (slice_set mid.drivers node e.driver) k d) ≡ k) same
          (ap node_of (get_or-set_same mid.drivers node e.driver d few) ∙ ap node_of (e.is d) ∙ h.own node d there)
      | inr differ ↦ ap node_of (get_or-set_other mid.drivers node m e.driver d (λ s. differ (sym s))) ∙ h.own m d less
    ]

    -- it stands where it stood
    pub stands_entered : StandsAt setup now acts
    stands_entered = subst (λ (r : SerialValue). StandsAt setup r acts) (sym e.set) (record {
      may = h.may;
      right = h.right;
      script = h.script;
      all_bits = h.all_bits;
      steps = h.steps;
      bits = h.bits;
      count = record {
        journals = h.count.journals;
        drivers = length-set mid.drivers node e.driver ∙ h.count.drivers;
        ports = h.count.ports;
      };
      acts_count = h.acts_count;
      links = h.links;
      ends = h.ends;
      starts = h.starts;
      own = owner;
      nodes = each;
      shown = h.shown;
    })

-- and all but the drivers is as it was
module _ {mid now : SerialValue} {node : ℕ} {answer : StepAnswer} {kept : UnmodelledRegisters}
    (e : Enters mid now node answer kept) where
  drivers_are : now.drivers ≡ slice_set mid.drivers node e.driver
  drivers_are = ap (λ (r : SerialValue). r.drivers) e.set

  ports_are : now.ports ≡ mid.ports
  ports_are = ap (λ (r : SerialValue). r.ports) e.set

  journals_are : now.bus.journals ≡ mid.bus.journals
  journals_are = ap (λ (r : SerialValue). r.bus.journals) e.set

  bits_are : now.bits ≡ mid.bits
  bits_are = ap (λ (r : SerialValue). r.bits) e.set

-- ---- the step is done

module _ {setup : Setup} {was mid now : SerialValue} {step_runs : List (List StepRun)} {node : ℕ}
    (h : StandsBy setup was step_runs) (there : node < setup.nodes) (a : StepRun)
    (so_far : DoesActs setup was mid node step_runs a.acts) (bits : a.bits ≡ was.bits) {kept : UnmodelledRegisters}
    (e : Enters mid now node a.answer kept) (place : (place_of (journal_at was.bus.journals node)).bits ≡ was.bits)
  where
    abbrev acts : List TypedAct
    acts = acts_in (step_runs_at step_runs node)

    abbrev Is : Type 0
    Is = (d : LoggedDriver) (p : Registers) → IsStepRun setup.version (slice_index_or was.ports node p)
        (seen_now (is_active acts) (journal_at was.bus.journals node) acts) (is_active acts)
        (kept_of (slice_index_or was.drivers node d)) a kept

    many : node < length step_runs
    many = let c = h.stands.acts_count in let l = length-map step_runs (λ (x : List StepRun). acts_in x) in
        omega (arith, c, l, there)

    many_drivers : node < length mid.drivers
    many_drivers = let c = so_far.stands.count.drivers in omega (arith, c, there)

    here : (d : LoggedDriver) → slice_index_or now.drivers node d ≡ e.driver
    here d = ap (λ l. slice_index_or l node d) (drivers_are e)
        ∙ get_or-set_same mid.drivers node e.driver d many_drivers

    else_where : (m : ℕ) (d : LoggedDriver) → (node ≡ m → ⊥) → slice_index_or now.drivers m d ≡ slice_index_or
        mid.drivers m d
    else_where m d differ = ap (λ l. slice_index_or l m d) (drivers_are e)
        ∙ get_or-set_other mid.drivers node m e.driver d (λ s. differ (sym s))

    kept_here : (d : LoggedDriver) → kept_of (slice_index_or now.drivers node d) ≡ kept
    kept_here d = ap kept_of (here d) ∙ ap kept_of (e.is d)

    abbrev j : List Entry
    j = journal_at was.bus.journals node

    on_now : (p : Registers) → LeadOn acts j (slice_index_or was.ports node p) a.acts
        (journal_at now.bus.journals node) (slice_index_or now.ports node p)
    on_now p =
        subst (λ (l : List (List Entry)). LeadOn acts j (slice_index_or was.ports node p) a.acts (journal_at l node)
        (slice_index_or now.ports node p)) (sym (journals_are e))
        (subst (λ (l : List Registers). LeadOn acts j (slice_index_or was.ports node p) a.acts
        (journal_at mid.bus.journals node) (slice_index_or l node p)) (sym (ports_are e)) (so_far.on p))

    -- it stands at the acts of the step too
    stands_now : StandsAt setup now (all_acts (with_step_runs step_runs node (a ∷ [])))
    stands_now = subst (λ (l : List (List TypedAct)). StandsAt setup now l) (sym (all_with step_runs node a many))
        (stands_entered there e so_far.stands)

    -- of its node the step has led on
    node_here : Is → (d : LoggedDriver) (p : Registers) → HasStepRuns setup.version
        (most_steps setup.version (slice_index_or setup.steps node 0)) (journal_at now.bus.journals node)
        (step_runs_at step_runs node ++ a ∷ []) (slice_index_or now.drivers node d) (slice_index_or now.ports node p)
    node_here is d p =
        let w = h.nodes node d p there in
        let logs : (log_of (slice_index_or mid.drivers node d)).done
        ≡ (log_of (slice_index_or was.drivers node d)).done = so_far.logs node d there in
        let done : done_in (log_of (slice_index_or now.drivers node d))
        ≡ done_in (log_of (slice_index_or was.drivers node d)) ++ step_record_of a ∷ [] =
        ap (λ (x : LoggedDriver). done_in (log_of x)) (here d) ∙ e.done d
        ∙ (λ i. (logs i).items ++ record { answer = a.answer; bits = bits_mid i } ∷ []) in
        record {
          led = subst (λ (k : UnmodelledRegisters). StepRunsLeadTo setup.version (journal_at now.bus.journals node)
              (step_runs_at step_runs node ++ a ∷ []) k (slice_index_or now.ports node p)) (sym (kept_here d))
              (step_run j (journal_at now.bus.journals node) (step_runs_at step_runs node) a
              (kept_of (slice_index_or was.drivers node d)) kept (slice_index_or was.ports node p)
              (slice_index_or now.ports node p) w.led (bits ∙ sym place) (is d p) (on_now p));
          done = map-append step_record_of (step_runs_at step_runs node) (a ∷ [])
              ∙ ap (λ l. l ++ step_record_of a ∷ []) w.done
              ∙ sym done;
          room = ap (λ (x : LoggedDriver). done_room (log_of x)) (here d) ∙ e.room d
              ∙ ap (λ (v : HistoryValue StepRecord). v.room) logs ∙ w.room;
        }
      where
        bits_mid : mid.bits ≡ a.bits
        bits_mid = so_far.bits ∙ sym bits

    -- each other one is as it was
    node_else : (m : ℕ) (d : LoggedDriver) (p : Registers) → m < setup.nodes → (node ≡ m → ⊥) →
        HasStepRuns setup.version (most_steps setup.version (slice_index_or setup.steps m 0))
        (journal_at now.bus.journals m) (step_runs_at step_runs m) (slice_index_or now.drivers m d)
        (slice_index_or now.ports m p)
    node_else m d p less differ =
        let w = h.nodes m d p less in
        let driver = else_where m d differ in
        let journal : journal_at now.bus.journals m ≡ journal_at was.bus.journals m =
        ap (λ l. journal_at l m) (journals_are e) ∙ so_far.others m less (λ s. differ (sym s)) in
        let port : slice_index_or now.ports m p ≡ slice_index_or was.ports m p =
        ap (λ l. slice_index_or l m p) (ports_are e) ∙ so_far.ports m p (λ s. differ (sym s)) in
        let logs : (log_of (slice_index_or now.drivers m d)).done ≡ (log_of (slice_index_or was.drivers m d)).done =
        ap (λ (x : LoggedDriver). (log_of x).done) driver ∙ so_far.logs m d less in
        let kept_same : kept_of (slice_index_or now.drivers m d) ≡ kept_of (slice_index_or was.drivers m d) =
        ap kept_of driver ∙ so_far.kept m d less in
        record {
          led = rw (journal, port, kept_same) w.led;
          done = w.done ∙ ap (λ v. v.items) (sym logs);
          room = ap (λ (v : HistoryValue StepRecord). v.room) logs ∙ w.room;
        }

    pub step_done : {one : Step} → a.step ≡ one → Is → DoesStep setup was now node one step_runs
    step_done same is = record {
      step_run = a;
      stands = record {
        stands = stands_now;
        nodes = λ m d p less. elim (cases_eq node m) [
          | inl e ↦
              let N : ℕ → List StepRun → Type 0 = λ k l. HasStepRuns setup.version
              (most_steps setup.version (slice_index_or setup.steps k 0)) (journal_at now.bus.journals k) l
              (slice_index_or now.drivers k d) (slice_index_or now.ports k p) in
              subst (λ (k : ℕ). N k (step_runs_at (with_step_runs step_runs node (a ∷ [])) k)) e
              (subst (N node) (sym (get_or-set_same step_runs node (step_runs_at step_runs node ++ a ∷ []) [] many))
              (node_here is d p))
          | inr differ ↦
              subst (λ (l : List StepRun). HasStepRuns setup.version
              (most_steps setup.version (slice_index_or setup.steps m 0)) (journal_at now.bus.journals m) l
              (slice_index_or now.drivers m d) (slice_index_or now.ports m p))
              (sym (get_or-set_other step_runs node m (step_runs_at step_runs node ++ a ∷ []) [] (λ s. differ (sym s))))
              (node_else m d p less differ)
        ];
      };
      step_is = same;
      bits_are = bits;
      bits = bits_are e ∙ so_far.bits;
      is = λ d p. subst (λ (k : UnmodelledRegisters). IsStepRun setup.version (slice_index_or was.ports node p)
          (seen_now (is_active acts) j acts) (is_active acts) (kept_of (slice_index_or was.drivers node d)) a k)
          (sym (kept_here d)) (is d p);
      on = on_now;
      items = λ m less. subst (λ (l : List (List Entry)). HasMore (journal_at was.bus.journals m) (journal_at l m))
          (sym (journals_are e)) (so_far.items m less);
      others = λ m less differ. ap (λ l. journal_at l m) (journals_are e) ∙ so_far.others m less differ;
      ports = λ m p differ. ap (λ l. slice_index_or l m p) (ports_are e) ∙ so_far.ports m p differ;
    }
