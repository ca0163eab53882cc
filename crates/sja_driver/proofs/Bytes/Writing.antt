-- A write on its way, of a driver that knows addresses and bytes alone.
use Rattle.std.proofs.Common.{◌≡◌, ◌++◌, List, [], ◌∷◌, length, map, refl, ap, arith}
use Rattle.sja_steps.specs.declared.step_answer.StepAnswer.{StepAnswer}
use Rattle.sja_driver.specs.declared.written.Written.{Written}
use Rattle.sja_driver.specs.StepRuns.{kept_by}
use Rattle.sja_driver.specs.TypedActs.{TypedAct}
use Rattle.sja_driver.specs.Ignoring.{or_by_acts}
use Rattle.sja_driver.specs.Written.{written_by, written_then}

-- what is kept after acts, and why it is ignored
pub kept_then : (w : Written) (acts : List TypedAct) → (written_by w acts).kept ≡ kept_by w.kept acts
kept_then w [] = refl
kept_then w (d ∷ acts) = kept_then (written_then w d.answer) acts

pub ignored_then : (w : Written) (acts : List TypedAct) → (written_by w acts).ignored ≡ or_by_acts w.ignored acts
ignored_then w [] = refl
ignored_then w (d ∷ acts) = ignored_then (written_then w d.answer) acts

-- after acts, and then others
pub written_both : (w : Written) (xs ys : List TypedAct) → written_by w (xs ++ ys) ≡ written_by (written_by w xs) ys
written_both w [] ys = refl
written_both w (d ∷ xs) ys = written_both (written_then w d.answer) xs ys

-- after one with this answer
pub written_one : (w : Written) (acts : List TypedAct) (answer : StepAnswer) →
    map (λ (d : TypedAct). d.answer) acts ≡ answer ∷ [] → written_by w acts ≡ written_then w answer
written_one w [] answer are = absurd (let none : [] ≡ answer ∷ [] = are in cc)
written_one w (d ∷ []) answer are = ap (λ (a : StepAnswer). written_then w a) (first_is d.answer answer are)
  where
    first_is : (a b : StepAnswer) → a ∷ [] ≡ b ∷ [] → a ≡ b
    first_is a b e = cc
written_one w (d ∷ x ∷ acts) answer are =
    absurd (let two = ap (λ (l : List StepAnswer). length l) are in omega (arith, two))
