use Rattle.std.proofs.Common.{rules}
use Rattle.sja_plan_reading.proofs.Spelling.StepWords.{no_read, no_load, no_command}
use Rattle.sja_plan_reading.proofs.step_text.of_two_words.Goals as goal

pub returns-in_err-address_of-in-read-clause-err :
    goal.returns-in_err-address_of-in-read-clause-err
returns-in_err-address_of-in-read-clause-err c =
    let none = no_read c.args.version c.args.name.now c.args.word.now in
    search (rules, none)

pub returns-in_err-message-in-load-clause-err : goal.returns-in_err-message-in-load-clause-err
returns-in_err-message-in-load-clause-err c =
    let none = no_load c.args.version c.args.name.now c.args.word.now in
    search (rules, none)

pub returns-in_err-value_of-in-command-clause-err : goal.returns-in_err-value_of-in-command-clause-err
returns-in_err-value_of-in-command-clause-err c =
    let none = no_command c.args.version c.args.name.now c.args.word.now in
    search (rules, none)
