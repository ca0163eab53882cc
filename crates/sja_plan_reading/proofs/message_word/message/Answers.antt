use Rattle.std.proofs.Common.{rules}
use Rattle.std.proofs.lemmas.Result.{IfErr-weaker}
use Rattle.sja_plan_reading.proofs.Spelling.StepWords.{no_message}
use Rattle.sja_plan_reading.proofs.message_word.message.Goals as goal

pub returns-in-Err-Bad-clause-err : goal.returns-in-Err-Bad-clause-err
returns-in-Err-Bad-clause-err c =
    IfErr-weaker c.of_notation.result _ _ (λ e. no_message c.args.version c.args.word.now e (search rules))
    c.of_notation.ensures.err
