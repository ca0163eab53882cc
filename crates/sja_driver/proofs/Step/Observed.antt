-- What was taken in before a step that asks the registers: the driver of the same activation, and a wait for the
-- interrupt line.
use Rattle.std.proofs.Common.{◌≡◌, ℕ, Bool, true, false, [], refl, sym, ap, ◌∙◌, subst, add-zero}
use Rattle.sja_link.specs.declared.link_id.LinkId.{LinkId}
use Rattle.sja_journal.specs.Lists.{Lists, on, is_on, same_on, OthersStand}
use Rattle.sja_regs.specs.declared.registers.Registers.{Registers}
use Rattle.sja_steps.specs.declared.step.Step.TheVariants.{Interrupt}
use Rattle.sja_steps.specs.declared.step_answer.StepAnswer.{StepAnswer}
use Rattle.sja_driver.specs.declared.any_driver.AnyDriver.{AnyDriver}
use Rattle.sja_driver.specs.declared.any_driver.AnyDriver.TheVariants.{InReset, InActive}
use Rattle.sja_driver.specs.Acting.{ActsOn, Does, Looks, IfOut}
use Rattle.sja_driver.specs.AnyDrivers.{IsDriverOf, is_out, held_of, off_of, opened_of, seen_by, link_used}
use Rattle.sja_driver.specs.Carried.{Tells}
use Rattle.sja_driver.specs.TypedActs.{FitsState}
use Rattle.sja_driver.specs.Drivers.{activation_in, held_in, off_in}
use Rattle.sja_driver.specs.Observing.{Observes}
use Rattle.sja_driver.specs.Tries.{IsQuiet}
use Rattle.sja_driver.specs.Tries.Tried.{Answered}
use Rattle.sja_driver.proofs.Step.Releasing.{does_pull}
use Rattle.sja_driver.proofs.Step.Written.{does_none, if_out}

module _ {E : Type 0} (stands : E → ℕ → Lists → Type 0) (dry : E → ℕ → Type 0) (old new : E) where
  -- it is the driver of the same activation
  pub place_kept : (was now : AnyDriver) (node n : ℕ) → Observes stands dry old new was now →
      IsDriverOf node n was → IsDriverOf node n now
  place_kept (InReset was) now node n o h = rw (o.0) h
  place_kept (InActive was) (InReset now) node n o h = absurd o
  place_kept (InActive was) (InActive now) node n o h = o.link ∙ h

  pub opened_kept : (was now : AnyDriver) → Observes stands dry old new was now → opened_of now ≡ opened_of was
  opened_kept (InReset was) now o = ap opened_of o.0
  opened_kept (InActive was) (InReset now) o = absurd o
  opened_kept (InActive was) (InActive now) o = ap (λ (l : LinkId). l.activation) o.link

  out_kept : (was now : AnyDriver) → Observes stands dry old new was now → is_out now ≡ is_out was
  out_kept (InReset was) now o = ap is_out o.0
  out_kept (InActive was) (InReset now) o = absurd o
  out_kept (InActive was) (InActive now) o = refl

  -- what was got, and nothing given
  got_alone : (was now : AnyDriver) → Observes stands dry old new was now →
      Does (on stands (link_used was)) old new (held_of was) (held_of now) (off_of was) (off_of now) [] []
  got_alone (InReset was) now o = rw (o.0, o.1) (does_none (on stands (link_used (InReset was))) old [] false)
  got_alone (InActive was) (InReset now) o = absurd o
  got_alone (InActive was) (InActive now) o =
      does_pull (on stands (activation_in was)) old new (held_in was) (held_in now) (off_in was) (off_in now) o.got

  all_shown : (alike : E → E → Type 0) → alike old new → (was now : AnyDriver) →
      OthersStand stands (link_used was) old new → Observes stands dry old new was now →
      IfOut was (Looks (same_on alike stands (link_used was)) (on stands (link_used was)) (is_on dry (link_used was))
      old (held_of was) (held_of now) (off_of was) (off_of now))
  all_shown alike same (InReset was) now others o = tt
  all_shown alike same (InActive was) (InReset now) others o = absurd o
  all_shown alike same (InActive was) (InActive now) others o =
      record { at = new; same = (same, others); pulls = o.got; all = o.all }

fits_wait : (version opened : ℕ) (active : Bool) (answer : StepAnswer) →
    FitsState version active opened Interrupt answer
fits_wait version opened true answer = tt
fits_wait version opened false answer = tt

quiet_wait : (p : Registers) (d : AnyDriver) (answer : StepAnswer) → IsQuiet p Interrupt d (Answered answer)
quiet_wait p (InReset d) answer = refl
quiet_wait p (InActive d) answer = tt

-- a wait for the interrupt line that is answered
pub line_acts : {E : Type 0} (alike : E → E → Type 0) (stands : E → ℕ → Lists → Type 0) (dry full : E → ℕ → Type 0)
    (old new : E) (p : Registers) (was now : AnyDriver) (answer : StepAnswer) → alike old new →
    OthersStand stands (link_used was) old new → Observes stands dry old new was now →
    Tells Interrupt (is_out was) p (seen_by now) answer →
    ActsOn alike stands dry full old new p p Interrupt was now (Answered answer)
line_acts alike stands dry full old new p was now answer same others o tells = record {
  does = got_alone stands dry old new was now o;
  still = tt;
  port = refl;
  fits = fits_wait p.version (opened_of was) (is_out was) answer;
  sees = if_out was _ tt;
  tells = tells;
  looks = all_shown stands dry old new alike same was now others o;
  waits = tt;
  kind = refl;
  out = out_kept stands dry old new was now o;
  opens = opened_kept stands dry old new was now o ∙ sym (add-zero (opened_of was));
  place = λ node n h. subst (λ (k : ℕ). IsDriverOf node k now) (sym (add-zero n))
      (place_kept stands dry old new was now node n o h);
  quiet = quiet_wait p now answer;
}
