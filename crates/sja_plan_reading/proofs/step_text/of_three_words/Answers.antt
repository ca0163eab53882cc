use Rattle.std.proofs.Common.{rules}
use Rattle.sja_plan_reading.proofs.Spelling.StepWords.{no_write, no_written}
use Rattle.sja_plan_reading.proofs.step_text.of_three_words.Goals as goal

pub returns-in_err-address-in-write-clause-err : goal.returns-in_err-address-in-write-clause-err
returns-in_err-address-in-write-clause-err c =
    let none = no_write c.args.version c.args.name.now c.args.at.now c.args.word.now in
    search (rules, none)

pub returns-in_err-value_of-in-write-clause-err : goal.returns-in_err-value_of-in-write-clause-err
returns-in_err-value_of-in-write-clause-err c =
    let none = no_written c.args.version c.args.name.now c.args.at.now c.args.word.now c.in_ok-address-in-write.address
    c.in_ok-address-in-write.ensures.ok in
    search (rules, none)
