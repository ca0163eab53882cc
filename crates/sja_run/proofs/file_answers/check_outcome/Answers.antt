use Rattle.sja_program.specs.Check.{IsHinted}
use Rattle.sja_run.proofs.file_answers.check_outcome.Goals as goal

-- what a run left out
pub returns-in-Ok-Hints : goal.returns-in-Ok-Hints
returns-in-Ok-Hints c =
    let is : IsHinted c.args.bytes.now c.in-Ok-Hints.text.items =
    rw c.in-Ok-Hints.field-0-is at c.in-Ok-Hints.ensures in
    c.hints_outcome.ensures c.args.bytes.now is
