use Rattle.std.proofs.Common.{None, refl, arith}
use Rattle.std.proofs.lemmas.Str.Pattern.{strip_prefix_char}
use Rattle.sja_plan_reading.proofs.item_text.times_of.Goals as goal

pub returns-in-None-clause-err : goal.returns-in-None-clause-err
returns-in-None-clause-err c =
    (refl, λ n h. strip_prefix_char 120 c.args.word.now None c.in-None.ensures.cases (omega arith) h.0 h.1)
