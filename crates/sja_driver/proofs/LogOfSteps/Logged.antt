-- The logged step: from a try at the present link, and what the log then has.
use Rattle.std.proofs.Common.{◌≡◌, ◌+◌, ◌≤◌, ℕ, ◌++◌, length, refl, sym, ap, ◌∙◌, subst, arith}
use Rattle.std.proofs.lemmas.List.{length-append}
use Rattle.std.specs.Prelude.{Bool, Option, None}
use Rattle.sja_journal.specs.Lists.{Lists, OthersStand}
use Rattle.sja_journal.specs.Sizes.{most_activations}
use Rattle.sja_regs.specs.declared.registers.Registers.{Registers}
use Rattle.sja_steps.specs.declared.step.Step.{Step}
use Rattle.sja_steps.specs.declared.step_answer.StepAnswer.{StepAnswer}
use Rattle.sja_driver.specs.declared.any_driver.AnyDriver.{AnyDriver}
use Rattle.sja_driver.specs.declared.logged_driver.LoggedDriver.{LoggedDriver}
use Rattle.sja_driver.specs.declared.work_log.WorkLog.{WorkLog}
use Rattle.sja_driver.specs.Acting.{ActsOn}
use Rattle.sja_driver.specs.AnyDrivers.{IsDriverOf, is_out, link_used, opened_of}
use Rattle.sja_driver.specs.TypedActs.{FitsState, opened}
use Rattle.sja_driver.specs.LoggedDrivers.{node_of, driver_of, log_of, kept_of, ended_of, IsLawful}
use Rattle.sja_driver.specs.LoggedDrivers.{StaysLawful, Steps}
use Rattle.sja_driver.specs.Inside.Entering.{Enters}
use Rattle.sja_driver.specs.Logs.{HasRoom, releases_in, left_in, left_room, releases_by, left_by}
use Rattle.sja_driver.specs.Tries.{Tried, IfAnswered, answer_of, ended_by, opened_after}
use Rattle.sja_driver.specs.Tries.Tried.{Unmet, Answered, Released, Ended}
use Rattle.sja_driver.proofs.LogOfSteps.Stepping.{left_count}
use Rattle.sja_driver.proofs.Step.Came.{goes_step}
use Rattle.sja_driver.proofs.Step.GivenKinds.{starts_few}

-- room for fewer steps
pub room_less : (version k n : ℕ) (log : WorkLog) → k ≤ n → HasRoom version n log → HasRoom version k log
room_less version k n log less h =
    let b = h.releases in
    record { releases = omega (arith, b, less); left = h.left }

-- a try adds one release at most
few_releases : (n : ℕ) (o : Tried) → length (releases_by n o) ≤ 1
few_releases n Unmet = omega arith
few_releases n (Answered answer) = omega arith
few_releases n (Released m) = omega arith
few_releases n (Ended ledger) = omega arith

-- and none where the step isn't done
none_unmet : (n : ℕ) (o : Tried) → answer_of o ≡ None → length (releases_by n o) ≡ 0
none_unmet n Unmet e = refl
none_unmet n (Answered answer) e = absurd cc
none_unmet n (Released m) e = absurd cc
none_unmet n (Ended ledger) e = absurd cc

-- so the log has room after a try
room_by : (version : ℕ) (was now : WorkLog) (k extra : ℕ) (o : Tried) (answer : Option StepAnswer) →
    length (releases_by (length (left_in was)) o) ≤ extra → Enters was now o answer →
    HasRoom version (k + extra) was → HasRoom version k now
room_by version was now k extra o answer few_released enters room =
    let has_releases = room.releases in
    let has_left = room.left in
    let same_releases = enters.release_room in
    let same_left = enters.left_room in
    let n = length (left_in was) in
    record {
      releases = omega (
        arith,
        has_releases,
        few_released,
        same_releases,
        ap length enters.released,
        length-append (releases_in was) (releases_by n o),
      );
      left = omega (arith, has_left, same_left);
    }

-- a try at the present link is a logged step
pub steps_of : {E : Type 0} (alike : E → E → Type 0) (stands : E → ℕ → Lists → Type 0) (dry full : E → ℕ → Type 0)
    (was now : LoggedDriver) (old new : E) (p q : Registers) (step : Step) (o : Tried) (answer : Option StepAnswer) →
    IsLawful was → ActsOn alike stands dry full old new p q step (driver_of was) (driver_of now) o →
    OthersStand stands (link_used (driver_of was)) old new → Enters (log_of was) (log_of now) o answer →
    Steps alike stands dry full was now old new p q step answer
steps_of alike stands dry full was now old new p q step o answer lawful acts others enters = record {
  tried = o;
  met = enters.met;
  acts = acts;
  releases = enters.released;
  leaves = enters.left;
  release_room = enters.release_room;
  left_room = enters.left_room;
  goes = λ bits. goes_step alike stands dry full (driver_of was) (driver_of now) (log_of was) (log_of now)
      (node_of was) bits p q step old new o (record {
        own = lawful.own;
        acts = acts;
        others = others;
        released = enters.released;
        left = enters.left;
      });
}

-- the driver after a try is that of its node, after the activations that the log then says have ended
pub lawful_after : (was : LoggedDriver) (driver : AnyDriver) (log : WorkLog) (o : Tried) →
    left_in log ≡ left_in (log_of was) ++ left_by o →
    ((node n : ℕ) → IsDriverOf node n (driver_of was) → IsDriverOf node (n + ended_by o) driver) → IsLawful was →
    IsDriverOf (node_of was) (length (left_in log)) driver
lawful_after was driver log o left place lawful =
    subst (λ (n : ℕ). IsDriverOf (node_of was) n driver)
    (sym (ap (λ l. length l) left ∙ left_count (left_in (log_of was)) o))
    (place (node_of was) (ended_of was) lawful.own)

-- it opened no more activations than the log was made for
pub opened_few : (version room : ℕ) (active : Bool) (n : ℕ) (step : Step) (o : Tried) →
    IfAnswered o (FitsState version active n step) → n ≤ room → most_activations version ≤ room →
    opened_after n step o ≤ room
opened_few version room active n this Unmet fits few most = few
opened_few version room active n this (Answered answer) fits few most =
    starts_few version room active n this answer fits few most
opened_few version room active n this (Released m) fits few most = few
opened_few version room active n this (Ended ledger) fits few most = few

-- a step that is never a start opens none
pub opens_none : (n room : ℕ) (step : Step) (o : Tried) → ((answer : StepAnswer) → opened step answer ≡ 0) →
    n ≤ room → opened_after n step o ≤ room
opens_none n room this Unmet none few = few
opens_none n room this (Answered answer) none few = let e = none answer in omega (arith, few, e)
opens_none n room this (Released m) none few = few
opens_none n room this (Ended ledger) none few = few

-- and all stays in order, where the log was made for as many as are open then
pub stays_few : {E : Type 0} (alike : E → E → Type 0) (stands : E → ℕ → Lists → Type 0) (dry full : E → ℕ → Type 0)
    (was now : LoggedDriver) (old new : E) (p q : Registers) (step : Step) (o : Tried) (answer : Option StepAnswer) →
    IsLawful was → opened_after (opened_of (driver_of was)) step o ≤ left_room (log_of was) →
    ActsOn alike stands dry full old new p q step (driver_of was) (driver_of now) o → alike old new →
    OthersStand stands (link_used (driver_of was)) old new → node_of now ≡ node_of was → kept_of now ≡ kept_of was →
    Enters (log_of was) (log_of now) o answer → StaysLawful alike stands was now old new answer
stays_few alike stands dry full was now old new p q step o answer lawful few acts same others owner kept enters =
    record {
      same = same;
      others = others;
      node = owner;
      lawful = record {
        own = subst (λ (n : ℕ). IsDriverOf n (ended_of now) (driver_of now)) (sym owner)
            (lawful_after was (driver_of now) (log_of now) o enters.left acts.place lawful);
        few = subst (λ (room : ℕ). opened_of (driver_of now) ≤ room) (sym enters.left_room)
            (subst (λ (n : ℕ). n ≤ left_room (log_of was)) (sym acts.opens) few);
      };
      room = λ version n room. room_by version (log_of was) (log_of now) n 1 o answer (few_releases (ended_of was) o)
          enters room;
      done = enters.done;
      kept = kept;
      waits = λ waited version n room.
          let none = none_unmet (ended_of was) o (sym enters.met ∙ waited) in
          room_by version (log_of was) (log_of now) n 0 o answer (omega (arith, none)) enters
          (subst (λ m. HasRoom version m (log_of was)) (omega arith) room);
    }

-- and so where it was made for all of the version
pub stays_lawful : {E : Type 0} (alike : E → E → Type 0) (stands : E → ℕ → Lists → Type 0) (dry full : E → ℕ → Type 0)
    (was now : LoggedDriver) (old new : E) (p q : Registers) (step : Step) (o : Tried) (answer : Option StepAnswer) →
    IsLawful was → most_activations p.version ≤ left_room (log_of was) →
    ActsOn alike stands dry full old new p q step (driver_of was) (driver_of now) o → alike old new →
    OthersStand stands (link_used (driver_of was)) old new → node_of now ≡ node_of was → kept_of now ≡ kept_of was →
    Enters (log_of was) (log_of now) o answer → StaysLawful alike stands was now old new answer
stays_lawful alike stands dry full was now old new p q step o answer lawful most acts =
    stays_few alike stands dry full was now old new p q step o answer lawful
    (opened_few p.version (left_room (log_of was)) (is_out (driver_of was)) (opened_of (driver_of was)) step o
    acts.fits lawful.few most) acts
