-- A run before its first turn.
use Rattle.std.proofs.Common.{◌≡◌, ◌*◌, ℕ, zero, suc, Bool, true, false, cond, List, [], ◌∷◌, length, map, refl, sym}
use Rattle.std.proofs.Common.{ap, ◌∙◌}
use Rattle.std.proofs.Common.{subst, arith}
use Rattle.std.specs.Prelude.{◌/◌, replicate, slice_index_or}
use Rattle.std.proofs.lemmas.List.{length-replicate, get_or-map, get_or-replicate}
use Rattle.sja_link.specs.Deques.{Deques}
use Rattle.sja_journal.specs.declared.entry.Entry.{Entry}
use Rattle.sja_bus_rules.specs.Buses.{BusValue, new_bus}
use Rattle.sja_link.specs.NewLinks.{AreNewLinks}
use Rattle.sja_journal.specs.Sizes.{most_activations}
use Rattle.sja_bus_rules.specs.Wire.{journal_at}
use Rattle.sja_regs.specs.declared.registers.Registers.{Registers}
use Rattle.sja_regs.specs.Registers.{at_power_on}
use Rattle.sja_driver.specs.declared.logged_driver.LoggedDriver.{LoggedDriver}
use Rattle.sja_driver.specs.TypedActs.{TypedAct, acts_at}
use Rattle.sja_promises.specs.NewDrivers.{AreNew}
use Rattle.sja_promises.specs.Nodes.{IsNode}
use Rattle.sja_driver.specs.declared.unmodelled_registers.UnmodelledRegisters.{UnmodelledRegisters}
use Rattle.sja_driver.specs.StepRuns.{step_runs_at, by_bytes, most_acts}
use Rattle.sja_promises.specs.Registering.{StepRunsLeadTo}
use Rattle.sja_promises.specs.Registering.StepRunsLeadTo.{power_on}
use Rattle.sja_serial.specs.Serial.{Setup, IsSetup, StandsAt, StandsBy, all_acts, most_steps}
use Rattle.sja_serial.specs.Inside.SerialProgress.{run_now}
use Rattle.sja_driver.specs.Shown.{ShowsRecord}
use Rattle.sja_driver.proofs.OneNode.Shown.{shows_first}
use Rattle.sja_promises.proofs.OneNode.Newly.{new_node}

-- a run to which nothing happened stands where no driver did anything
pub stands_new : (setup : Setup) (steps : List ℕ) (bus : BusValue) (drivers : List LoggedDriver)
    (ports : List Registers)
    (links : List Deques) → IsSetup setup →
    bus ≡ new_bus setup.strikes setup.bits setup.nodes (most_activations setup.version) setup.steps →
    length drivers ≡ setup.nodes → AreNew setup.version steps setup.steps setup.nodes drivers →
    ports ≡ replicate setup.nodes (at_power_on setup.version) →
    AreNewLinks setup.nodes (most_activations setup.version) links →
    StandsAt setup (run_now bus drivers ports links 0) (replicate setup.nodes [])
stands_new setup steps bus drivers ports links may bus_is driver_count made ports_are fresh =
    let nodes = setup.nodes in record {
      may = may;
      right = ap (λ (b : BusValue). b.fault) bus_is;
      script = ap (λ (b : BusValue). b.script) bus_is;
      steps = ap (λ (b : BusValue). b.steps) bus_is;
      all_bits = let a = ap (λ (b : BusValue). b.run) bus_is in let l =
          ap (λ (b : BusValue). b.left) bus_is in omega (arith, a, l);
      bits = sym (ap (λ (b : BusValue). b.run) bus_is);
      count = record {
        journals = ap (λ (b : BusValue). length b.journals) bus_is ∙ length-replicate nodes [];
        drivers = driver_count;
        ports = ap (λ l. length l) ports_are ∙ length-replicate nodes (at_power_on setup.version);
      };
      acts_count = length-replicate setup.nodes [];
      links = ap (λ (b : BusValue). b.starts) bus_is;
      ends = record {
        count = fresh.count;
        own = λ node l less. ap (λ (s : Deques). s.node) (fresh.each node l less);
      };
      starts = λ node l less. ap (λ (s : Deques). s.starts) (fresh.each node l less);
      own = λ node d less. (made node d less).own;
      nodes = λ node d p l less.
          let x = slice_index_or drivers node d in let s = slice_index_or links node l in
          let is = new_node setup.version node (slice_index_or steps node 0) (slice_index_or setup.steps node 0) x s
          (most_activations setup.version) (made node d less) (fresh.each node l less) in
          let journal : journal_at bus.journals node ≡ [] = ap (λ (b : BusValue). journal_at b.journals node) bus_is
          ∙ get_or-replicate nodes node [] [] less in
          let port : slice_index_or ports node p ≡ at_power_on setup.version = ap
          (λ l. slice_index_or l node p) ports_are
          ∙ get_or-replicate nodes node (at_power_on setup.version) p less in
          let acts : acts_at (replicate setup.nodes []) node ≡ [] =
          get_or-replicate setup.nodes node [] [] less in
          subst (λ (j : List Entry). IsNode setup.version (slice_index_or setup.steps node 0) j
          (acts_at (replicate setup.nodes []) node) x (slice_index_or ports node p) s) (sym journal)
          (subst (λ (ds : List TypedAct). IsNode setup.version (slice_index_or setup.steps node 0) [] ds x
          (slice_index_or ports node p) s) (sym acts)
          (subst (λ (r : Registers). IsNode setup.version (slice_index_or setup.steps node 0) [] [] x r s)
          (sym port) is));
      shown = λ node p less told.
          let journal : journal_at bus.journals node ≡ [] = ap (λ (b : BusValue). journal_at b.journals node) bus_is
          ∙ get_or-replicate nodes node [] [] less in
          let port : slice_index_or ports node p ≡ at_power_on setup.version = ap
          (λ l. slice_index_or l node p) ports_are ∙ get_or-replicate nodes node (at_power_on setup.version) p less in
          subst (λ (j : List Entry). ShowsRecord j (slice_index_or ports node p)) (sym journal)
          (subst (λ (r : Registers). ShowsRecord [] r) (sym port) (shows_first setup.version));
    }

-- where each step is so many acts at most, as many steps have room as were asked for
pub as_asked : (bytes : Bool) (n : ℕ) → cond bytes (cond bytes (3 * n) n / 3) (cond bytes (3 * n) n) ≡ n
as_asked true n = omega arith
as_asked false n = refl

no_acts_all : (n : ℕ) → all_acts (replicate n []) ≡ replicate n []
no_acts_all zero = refl
no_acts_all (suc n) = ap (λ l. [] ∷ l) (no_acts_all n)

-- and it stands where no step was done
pub stands_by_new : (setup : Setup) (steps : List ℕ) (bus : BusValue) (drivers : List LoggedDriver)
    (ports : List Registers) (links : List Deques) → IsSetup setup →
    setup.steps ≡ map (most_acts setup.version) steps → length steps ≡ setup.nodes →
    bus ≡ new_bus setup.strikes setup.bits setup.nodes (most_activations setup.version) setup.steps →
    length drivers ≡ setup.nodes → AreNew setup.version steps setup.steps setup.nodes drivers →
    ports ≡ replicate setup.nodes (at_power_on setup.version) →
    AreNewLinks setup.nodes (most_activations setup.version) links →
    StandsBy setup (run_now bus drivers ports links 0) (replicate setup.nodes [])
stands_by_new setup steps bus drivers ports links may sizes many bus_is driver_count made ports_are fresh =
    let nodes = setup.nodes in let version = setup.version in record {
      stands = subst (λ (l : List (List TypedAct)). StandsAt setup (run_now bus drivers ports links 0) l)
          (sym (no_acts_all nodes))
          (stands_new setup steps bus drivers ports links may bus_is driver_count made ports_are fresh);
      nodes = λ node d p less.
          let x = slice_index_or drivers node d in let new = made node d less in
          let journal : journal_at bus.journals node ≡ [] = ap (λ (b : BusValue). journal_at b.journals node) bus_is
          ∙ get_or-replicate nodes node [] [] less in
          let port : slice_index_or ports node p ≡ at_power_on version = ap (λ l. slice_index_or l node p) ports_are
          ∙ get_or-replicate nodes node (at_power_on version) p less in
          let none : step_runs_at (replicate nodes []) node ≡ [] = get_or-replicate nodes node [] [] less in
          let room : most_steps version (slice_index_or setup.steps node 0) ≡ slice_index_or steps node 0 =
          ap (λ (l : List ℕ). most_steps version (slice_index_or l node 0)) sizes
          ∙ ap (most_steps version) (get_or-map (most_acts version) steps node 0 0 (omega (arith, many, less)))
          ∙ as_asked (by_bytes version) (slice_index_or steps node 0) in
          rw (journal, port, none, room) (record {
            led = subst (λ (k : UnmodelledRegisters). StepRunsLeadTo version [] [] k (at_power_on version))
                (sym new.kept) power_on;
            done = sym new.empty.done;
            room = new.made_for.done;
          });
    }
