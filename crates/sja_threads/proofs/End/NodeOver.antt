-- One node of a run that is over: what each of its links carried, and how each of its activations ends.
use Rattle.std.proofs.Common.{◌≡◌, ℕ, zero, suc, ◌+◌, List, [], ◌++◌, length, map, refl, sym, ◌∙◌, subst, arith}
use Rattle.std.proofs.Common.{inl}
use Rattle.std.proofs.lemmas.List.{length-map, take_all}
use Rattle.sja_journal.specs.declared.entry.Entry.{Entry}
use Rattle.sja_journal.specs.declared.down.Down.{Down}
use Rattle.sja_journal.specs.Accounts.{Account, account}
use Rattle.sja_journal.specs.Carried.{put_of, taken_of}
use Rattle.sja_journal.specs.Lists.{messages}
use Rattle.sja_journal.specs.Parts.{part}
use Rattle.sja_rings.specs.declared.node_bus.NodeBus.{NodeBus}
use Rattle.sja_rings.specs.declared.node_driver.NodeDriver.{NodeDriver}
use Rattle.sja_regs.specs.DriverSettings.{SettingsValue}
use Rattle.sja_steps.specs.declared.step.Step.{Step}
use Rattle.sja_driver.specs.TypedActs.{AreActs, TypedAct, given_in, acts_of}
use Rattle.sja_driver.specs.LoggedDrivers.{log_of}
use Rattle.sja_driver.specs.Logs.{releases_in, released_of}
use Rattle.sja_log.specs.Log.{ActivationValue}
use Rattle.sja_promises.specs.Settling.{IsSettled}
use Rattle.sja_promises.specs.Finishing.{held_after, activation_after}
use Rattle.sja_threads.specs.declared.handover.Handover.{Handover}
use Rattle.sja_threads.specs.Inside.Ended.{IsOverAt}
use Rattle.sja_threads.specs.Inside.Settling.{IsLeftOnAll}
use Rattle.sja_driver.proofs.LogOfSteps.GivenOutside.{given_outside}

module _ (set : SettingsValue) (node : ℕ) (j : List Entry) (acts : List TypedAct) (w : Handover NodeDriver)
    (bus : NodeBus) (h : IsOverAt set node j acts w bus) (down : ℕ → List Down) (left : IsLeftOnAll bus w.end down)
  where
    abbrev did : ℕ → Account
    did a = record { got = h.drivers.got a; given = given_in (acts_of acts (suc a)) }

    -- what was put is what the driver got and what lies there, and all that it gave was taken
    on_link : (a : ℕ) → (put_of (part j (suc a)) ≡ h.drivers.got a ++ down (suc a))
        × (given_in (acts_of acts (suc a)) ≡ taken_of (part j (suc a)))
    on_link a = left (suc a) (account j (suc a) (did a)) (h.buses did a) (h.drivers.kept a)

    abbrev steps : List Step
    steps = map (λ (d : TypedAct). d.step) acts

    of_steps : AreActs set.version steps acts
    of_steps = record {
      first = sym (take_all (length acts) steps
          (let n = length-map acts (λ (d : TypedAct). d.step) in omega (arith, n)));
      states = h.traces.answered.states;
      gives = h.traces.answered.gives;
    }

    pub given_all : (a : ℕ) → given_in (acts_of acts a) ≡ taken_of (part j a)
    given_all zero = given_outside steps acts 0 of_steps (inl refl) ∙ sym h.none
    given_all (suc a) = (on_link a).1

    abbrev ended_with : ℕ → ℕ → ActivationValue
    ended_with a n = record {
      released = released_of (releases_in (log_of w.driver)) n;
      unread = held_after w.driver a ++ messages (down n);
    }

    pub settled_all : (a : ℕ) → IsSettled j (a + 1) (activation_after w.driver (down (a + 1)) a)
    settled_all a =
        let one : suc a ≡ a + 1 = omega arith in
        let link = on_link a in
        subst (λ (n : ℕ). IsSettled j n (ended_with a n)) one
        (record {
          driver = did a;
          down = down (suc a);
          held = held_after w.driver a;
          put = link.0;
          given = link.1;
          holds = h.drivers.told a;
          unread = refl;
        })
