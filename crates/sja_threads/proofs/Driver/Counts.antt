-- How many bits acts count, one after the other.
use Rattle.std.proofs.Common.{◌≡◌, ◌++◌, ℕ, false, Some, None, List, [], ◌∷◌, length, refl, sym, ap, ◌∙◌, subst}
use Rattle.sja_regs.specs.declared.registers.Registers.{Registers}
use Rattle.sja_steps.specs.declared.step.Step.{Step}
use Rattle.sja_steps.specs.declared.step_answer.StepAnswer.{StepAnswer}
use Rattle.sja_steps.specs.declared.step_answer.StepAnswer.TheVariants.{Done as DoneAnswer, Released as ReleasedAnswer}
use Rattle.sja_driver.specs.TypedActs.{TypedAct}
use Rattle.sja_driver.specs.Logs.{acts_by}
use Rattle.sja_driver.specs.Tries.{Tried, answer_of}
use Rattle.sja_driver.specs.Tries.Tried.{Unmet, Answered, Released, Ended}
use Rattle.sja_threads.specs.declared.order.Order.{Ghosts as Orders}
use Rattle.sja_threads.specs.declared.driver_thread.DriverThread.{DriverThread}
use Rattle.sja_thread_promises.specs.Counting.{AreCounted, found_after}
use Rattle.sja_thread_promises.specs.Ordering.{is_at_port}
use Rattle.sja_threads.specs.Inside.Steps.{CountsOn}

-- ---- one try

module _ (p : Registers) (which : Step) (was bits : ℕ) where
  pub try_counted : (o : Tried) → (is_at_port which ≡ false → bits ≡ was) → AreCounted was (acts_by p which o bits)
  try_counted Unmet away = tt
  try_counted (Answered answer) away = (away, tt)
  try_counted (Released m) away = (away, tt)
  try_counted (Ended ledger) away = (away, tt)

  pub try_found : (o : Tried) (now : ℕ) → ((s : StepAnswer) → answer_of o ≡ Some s → now ≡ bits) →
      (answer_of o ≡ None → now ≡ was) → now ≡ found_after was (acts_by p which o bits)
  try_found Unmet now met unmet = unmet refl
  try_found (Answered answer) now met unmet = met answer refl
  try_found (Released m) now met unmet = met (ReleasedAnswer (length m)) refl
  try_found (Ended ledger) now met unmet = met DoneAnswer refl

-- ---- of acts, and then of more

pub both_counted : (found : ℕ) (xs ys : List TypedAct) → AreCounted found xs → AreCounted (found_after found xs) ys →
    AreCounted found (xs ++ ys)
both_counted found [] ys x y = y
both_counted found (d ∷ xs) ys x y = (x.0, both_counted d.bits xs ys x.1 y)

pub both_found : (found : ℕ) (xs ys : List TypedAct) →
    found_after found (xs ++ ys) ≡ found_after (found_after found xs) ys
both_found found [] ys = refl
both_found found (d ∷ xs) ys = both_found d.bits xs ys

module _ {N E : Type 0} {o : Orders N} where
  pub counts_none : (t : DriverThread N E o) → CountsOn t t []
  counts_none t = record { are = tt; found = refl }

  pub counts_more : (a b c : DriverThread N E o) (xs ys : List TypedAct) → CountsOn a b xs → CountsOn b c ys →
      CountsOn a c (xs ++ ys)
  counts_more a b c xs ys p q = record {
    are = both_counted a.found xs ys p.are (subst (λ (n : ℕ). AreCounted n ys) p.found q.are);
    found = q.found ∙ ap (λ (n : ℕ). found_after n ys) p.found ∙ sym (both_found a.found xs ys);
  }
