-- The credits that a driver gives are the lengths that its releases answer.
use Rattle.std.proofs.Common.{◌≡◌, ℕ, ◌+◌, Bool, true, false, List, [], ◌∷◌, ◌++◌, refl, ap, ap₂, ◌∙◌}
use Rattle.std.specs.Prelude.{◌==◌, if◌then◌else◌}
use Rattle.sja_journal.specs.declared.up.Up.{Up}
use Rattle.lemmas.specs.Picking.{EachAfter}
use Rattle.sja_link.specs.World.{credits_of}
use Rattle.sja_link.proofs.JournalEntries.ListCounts.{credits_both}
use Rattle.sja_regs.specs.Commands.{command_of, requests}
use Rattle.sja_steps.specs.declared.step.Step.{Step}
use Rattle.sja_steps.specs.declared.step.Step.TheVariants.{Start, Stop, Window, Release, Read, Write, Load, Command}
use Rattle.sja_steps.specs.declared.step.Step.TheVariants.{Await, Sent, Interrupt, At}
use Rattle.sja_steps.specs.declared.step_answer.StepAnswer.{StepAnswer}
use Rattle.sja_steps.specs.declared.step_answer.StepAnswer.TheVariants.{Done, Released}
use Rattle.sja_driver.specs.TypedActs.{TypedAct, opens_by, Gives, GivesSend, length_in, given_in, released_lengths}
use Rattle.sja_driver.specs.TypedActs.{section_from}

credit_one : (s : Step) (r : StepAnswer) (gave : List Up) → Gives s r gave → credits_of gave ≡ length_in s r
credit_one Start Done gave g = ap credits_of g.1
credit_one Release (Released k) gave g = ap credits_of g
credit_one Stop Done gave g = ap credits_of g
credit_one (Command v) Done gave g = asked (requests (command_of v)) g
  where
    asked : (b : Bool) → GivesSend b gave → credits_of gave ≡ []
    asked true h = ap credits_of h.1
    asked false h = ap credits_of h
credit_one Start other gave g = ap credits_of g
credit_one Release other gave g = ap credits_of g
credit_one Stop other gave g = ap credits_of g
credit_one (Command v) other gave g = ap credits_of g
credit_one Window r gave g = ap credits_of g
credit_one (Read x) r gave g = ap credits_of g
credit_one (Write x y) r gave g = ap credits_of g
credit_one (Load m) r gave g = ap credits_of g
credit_one (Await k) r gave g = ap credits_of g
credit_one Sent r gave g = ap credits_of g
credit_one Interrupt r gave g = ap credits_of g
credit_one (At bits) r gave g = ap credits_of g

pub credits_in : (n : ℕ) (before ds : List TypedAct) (a : ℕ) →
    EachAfter (λ b (d : TypedAct). Gives d.step d.answer d.gave) before ds →
    credits_of (given_in (section_from opens_by n ds a)) ≡ released_lengths (section_from opens_by n ds a)
credits_in n before [] a g = refl
credits_in n before (d ∷ ds) a g =
    over ((n + opens_by d) == a) (credits_in (n + opens_by d) (before ++ d ∷ []) ds a g.1)
  where
    over : (b : Bool) → credits_of (given_in (section_from opens_by (n + opens_by d) ds a))
        ≡ released_lengths (section_from opens_by (n + opens_by d) ds a) →
        credits_of (given_in ((if b then d ∷ [] else []) ++ section_from opens_by (n + opens_by d) ds a))
        ≡ released_lengths ((if b then d ∷ [] else []) ++ section_from opens_by (n + opens_by d) ds a)
    over true h =
        credits_both d.gave (given_in (section_from opens_by (n + opens_by d) ds a))
        ∙ ap₂ (λ (x y : List ℕ). x ++ y) (credit_one d.step d.answer d.gave g.0) h
    over false h = h
