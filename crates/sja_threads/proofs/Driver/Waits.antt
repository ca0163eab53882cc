-- A wait for a bit in a driver's thread.
use Rattle.std.proofs.Common.{◌≡◌, ◌<◌, ◌≤◌, ◌⊎◌, ℕ, Bool, true, [], refl, sym, ap, subst}
use Rattle.std.proofs.Common.{arith, inl, inr}
use Rattle.sja_link.specs.declared.driver_end.DriverEnd.{Ghosts as Ends}
use Rattle.sja_regs.specs.declared.registers.Registers.{Registers}
use Rattle.sja_regs.specs.DriverSettings.{SettingsValue, HasSettings}
use Rattle.sja_steps.specs.declared.refusal.Refusal.TheVariants.{Closed}
use Rattle.sja_steps.specs.declared.step.Step.TheVariants.{Read, At}
use Rattle.sja_steps.specs.declared.step_answer.StepAnswer.{StepAnswer}
use Rattle.sja_steps.specs.declared.step_answer.StepAnswer.TheVariants.{Done as DoneAnswer, Refused}
use Rattle.sja_driver.specs.StepRuns.{Answers, by_bytes, act_steps}
use Rattle.sja_driver.specs.TypedActs.{is_active}
use Rattle.sja_driver.specs.Drivers.{nothing_seen}
use Rattle.sja_driver.specs.LoggedDrivers.{kept_of}
use Rattle.sja_driver.specs.declared.logged_driver.LoggedDriver.{LoggedDriver}
use Rattle.sja_threads.specs.declared.order.Order.{Ghosts as Orders}
use Rattle.sja_threads.specs.declared.driver_thread.DriverThread.{DriverThread}
use Rattle.sja_thread_promises.specs.Accessing.{IsStepRunAt}
use Rattle.sja_threads.specs.Inside.StepRuns.{DoesStep, EndsWait}
use Rattle.sja_threads.proofs.Driver.OneStep.{Entered}
use Rattle.sja_threads.proofs.Driver.Settings.{registers_with, has_those}
use Rattle.sja_threads.proofs.Driver.Steps.{does_none, does_entered}
use Rattle.sja_threads.proofs.Twin.Led.{has_marks}

-- some registers with these settings, of a port that is closed
abbrev closed_with : SettingsValue → Registers
closed_with s = record (registers_with s) { closed = true }

has_closed : (s : SettingsValue) → HasSettings (closed_with s) s
has_closed s = let p = registers_with s in has_marks p true p.ended s (has_those s)

-- where it is given up the port is closed
of_closed : (least found : ℕ) (answer : StepAnswer) → EndsWait least (answer, found) →
    ((answer ≡ DoneAnswer) × (least ≤ found)) ⊎ ((answer ≡ Refused Closed) × (found < least) × (true ≡ true))
of_closed least found answer (inl done) = inl done
of_closed least found answer (inr shut) = inr (shut.0, shut.1, refl)

module _ {N E : Type 0} {o : Orders N} (e : Ends E) (was : DriverThread N E o) (d : LoggedDriver) (found : ℕ) where
  waited : (least : ℕ) (answer : StepAnswer) (active : Bool) → EndsWait least (answer, found) →
      kept_of d ≡ kept_of was.driver → by_bytes was.set.version ≡ true →
      IsStepRunAt was.set.version was.set active (kept_of was.driver)
      (record { step = At least; answer = answer; bits = found; acts = [] }) (kept_of d)
  waited least answer active ends kept bytes = record {
    at = closed_with was.set;
    seen = nothing_seen;
    has = has_closed was.set;
    is = record {
      steps = subst (λ (k : Bool). [] ≡ act_steps k (closed_with was.set) active (At least)) (sym bytes) refl;
      answer = subst (λ (k : Bool). Answers k (closed_with was.set) nothing_seen (kept_of was.driver)
          found (At least) [] answer) (sym bytes) (of_closed least found answer ends);
      left = kept;
    };
    read = λ other x same acts. absurd (let two : At least ≡ Read other = same in cc);
  }

  pub wait_done : (least : ℕ) (answer : StepAnswer) → EndsWait least (answer, found) → ((x : E) → e.same x x) →
      Entered e was (record was { found = found }) d (kept_of was.driver) answer → by_bytes was.set.version ≡ true →
      DoesStep e was (record was { driver = d; found = found }) (At least)
  unfolding does_none does_entered
  wait_done least answer ends r entered bytes = record {
    step_run = record { step = At least; answer = answer; bits = found; acts = [] };
    step_is = refl;
    does = does_entered e was was d found (kept_of was.driver) [] (does_none e r was) entered.0 entered.2;
    few = omega arith;
    counts = (tt, inr (least, refl, refl));
    found = refl;
    is = λ before w. waited least answer (is_active before) ends (ap (λ (x : LoggedDriver). kept_of x) entered.0) bytes;
    done = entered.1;
    room = entered.2;
  }
