use Rattle.std.proofs.Common.{rules, refl, inl, inr, arith}
use Rattle.std.proofs.lemmas.Bool.Decides.{nat_tests}
use Rattle.sja_plan_reading.proofs.Spelling.StepWords.{no_step}
use Rattle.sja_plan_reading.proofs.step_text.step_of.Goals as goal

pub returns-in_default-clause-err : goal.returns-in_default-clause-err
returns-in_default-clause-err c =
    elim c.in_default.branch [
      | goal.in_default-via-then-words-lt1 w ↦
          inr (refl, no_step c.args.version c.args.words.now (inl (grind (arith, nat_tests))))
      | goal.in_default-via-else-words-lt1+else-words-lt2+else-words-lt3+else-words-lt4 w ↦
          inr (refl, no_step c.args.version c.args.words.now (inr (grind (arith, nat_tests))))
    ]
