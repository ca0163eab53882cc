-- Acts of one step of a driver, one right after the other.
use Rattle.std.proofs.Common.{◌≡◌, ◌+◌, ◌<◌, ◌++◌, ℕ, zero, suc, List, [], ◌∷◌, length, refl, sym, ap, ◌∙◌, subst}
use Rattle.std.proofs.Common.{arith}
use Rattle.std.proofs.lemmas.List.{get_or_default, get_or-set_same, length-append}
use Rattle.std.specs.Prelude.{slice_index_or}
use Rattle.sja_bus_rules.specs.Wire.{journal_at}
use Rattle.sja_steps.specs.declared.step.Step.{Step}
use Rattle.sja_steps.specs.declared.step_answer.StepAnswer.{StepAnswer}
use Rattle.sja_driver.specs.StepRuns.{StepRun, step_runs_at, acts_in}
use Rattle.sja_driver.specs.TypedActs.{TypedAct, acts_at, is_active, with_acts}
use Rattle.sja_driver.specs.AnyDrivers.{is_out}
use Rattle.sja_driver.specs.declared.logged_driver.LoggedDriver.{LoggedDriver}
use Rattle.sja_driver.specs.LoggedDrivers.{driver_of, IsLawful}
use Rattle.sja_driver.specs.Writes.{write_steps}
use Rattle.sja_regs.specs.declared.registers.Registers.{Registers}
use Rattle.sja_regs.specs.Registers.{at_power_on}
use Rattle.sja_promises.specs.Registering.{IsPortAct}
use Rattle.sja_promises.specs.Registering.LeadOn.{nothing_more, one_more}
use Rattle.sja_serial.specs.Inside.Accessing.{DoesActs}
use Rattle.sja_serial.specs.Serial.{Setup, SerialValue, StandsAt, StandsBy, all_acts}
use Rattle.sja_serial.specs.Stepping.{DoesAct, HasActLeft}
use Rattle.sja_serial.proofs.AllNodes.Several.{acts_twice, does_none, more_both, some_links}

-- the acts of one node
pub all_at : (step_runs : List (List StepRun)) (node : ℕ) →
    acts_at (all_acts step_runs) node ≡ acts_in (step_runs_at step_runs node)
all_at [] node = refl
all_at (l ∷ step_runs) zero = refl
all_at (l ∷ step_runs) (suc node) = all_at step_runs node

-- a driver of a run is lawful
pub driver_lawful : {setup : Setup} {was : SerialValue} {acts : List (List TypedAct)} (node : ℕ)
    (driver : LoggedDriver) →
    StandsAt setup was acts → node < setup.nodes → driver ≡ slice_index_or was.drivers node driver → IsLawful driver
driver_lawful node driver h there is = subst (λ (d : LoggedDriver). IsLawful d) (sym is)
    (h.nodes node driver (at_power_on 1) some_links there).traced.lawful

-- the steps that a write is, by the driver of a node and by its port, are those by its acts
pub steps_there : {setup : Setup} {was : SerialValue} {step_runs : List (List StepRun)} (node : ℕ)
    (driver : LoggedDriver) (port : Registers) → StandsBy setup was step_runs → node < setup.nodes →
    driver ≡ slice_index_or was.drivers node driver → port ≡ slice_index_or was.ports node port →
    (p : Registers) (address value : ℕ) → write_steps port (is_out (driver_of driver)) address value
    ≡ write_steps (slice_index_or was.ports node p) (is_active (acts_in (step_runs_at step_runs node))) address value
steps_there {setup} {was} {step_runs} node driver port h there driver_is port_is p address value =
    let near : node < length was.ports = let k = h.stands.count.ports in omega (arith, k, there) in
    let at : port ≡ slice_index_or was.ports node p = port_is ∙ get_or_default was.ports node port p near in
    let out : is_out (driver_of driver) ≡ is_active (acts_in (step_runs_at step_runs node)) =
    ap (λ (d : LoggedDriver). is_out (driver_of d)) driver_is
    ∙ sym (h.stands.nodes node driver (at_power_on 1) some_links there).traced.traces.out
    ∙ ap is_active (all_at step_runs node) in
    λ i. write_steps (at i) (out i) address value

module _ {setup : Setup} {was : SerialValue} {step_runs : List (List StepRun)} {node : ℕ} (there : node < setup.nodes)
  where
    pub inside : StandsBy setup was step_runs → node < length (all_acts step_runs)
    inside h = let c = h.stands.acts_count in omega (arith, c, there)

    -- with acts more of the node
    pub acts_then : StandsBy setup was step_runs → (more : List TypedAct) →
        acts_at (with_acts (all_acts step_runs) node more) node ≡ acts_in (step_runs_at step_runs node) ++ more
    acts_then h more =
        get_or-set_same (all_acts step_runs) node (acts_at (all_acts step_runs) node ++ more) [] (inside h)
        ∙ ap (λ l. l ++ more) (all_at step_runs node)

    -- none yet
    pub no_acts_yet : StandsBy setup was step_runs → DoesActs setup was was node step_runs []
    no_acts_yet h =
        let none = does_none setup was node (all_acts step_runs) h.stands in record {
          stands = none.stands;
          bits = refl;
          on = λ p. nothing_more;
          items = none.items;
          others = λ m less differ. refl;
          ports = λ m p differ. refl;
          logs = λ m d less. refl;
          kept = λ m d less. refl;
        }

    module _ (h : StandsBy setup was step_runs) {mid : SerialValue} {more : List TypedAct}
        (so_far : DoesActs setup was mid node step_runs more) where
      -- there is room for one more
      pub fits : length (acts_in (step_runs_at step_runs node)) + length more < slice_index_or setup.steps node 0 →
          length (acts_at (with_acts (all_acts step_runs) node more) node) < slice_index_or setup.steps node 0
      fits few =
          let all = ap (λ l. length l) (acts_then h more) in
          let both = length-append (acts_in (step_runs_at step_runs node)) more in omega (arith, few, all, both)

      pub has_act_left : length (acts_in (step_runs_at step_runs node)) + length more < slice_index_or setup.steps node
          0 →
          HasActLeft setup mid node
      has_act_left few = record {
        acts = with_acts (all_acts step_runs) node more;
        stands = so_far.stands;
        there = there;
        left = fits few;
      }

      -- and it is done
      pub one_act_more : {now : SerialValue} {one : Step} {answer : StepAnswer} →
          (d : DoesAct setup mid now node one answer (with_acts (all_acts step_runs) node more)) →
          DoesActs setup was now node step_runs (more ++ d.act ∷ [])
      one_act_more {now} d = record {
        stands = subst (λ (l : List (List TypedAct)). StandsAt setup now l)
            (acts_twice (all_acts step_runs) node more (d.act ∷ []) (inside h)) d.does.stands;
        bits = d.does.bits ∙ so_far.bits;
        on = λ p. one_more more d.act (journal_at mid.bus.journals node) (journal_at now.bus.journals node)
            (slice_index_or mid.ports node p) (slice_index_or now.ports node p) (so_far.on p)
            (subst (λ (l : List TypedAct). IsPortAct (slice_index_or mid.ports node p) (slice_index_or now.ports node p)
            (journal_at mid.bus.journals node) (journal_at now.bus.journals node) l d.act) (acts_then h more)
            (d.port p));
        items = λ m less. more_both (journal_at was.bus.journals m) (journal_at mid.bus.journals m)
            (journal_at now.bus.journals m) (so_far.items m less) (d.does.items m less);
        others = λ m less differ. d.others m less differ ∙ so_far.others m less differ;
        ports = λ m p differ. d.ports m p differ ∙ so_far.ports m p differ;
        logs = λ m x less. d.logs m x less ∙ so_far.logs m x less;
        kept = λ m x less. d.kept m x less ∙ so_far.kept m x less;
      }
