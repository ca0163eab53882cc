use Rattle.sja_program.proofs.BytesRead.FewBytes.{few_left_printed}
use Rattle.sja_program.proofs.Denied.{few_left_denied}
use Rattle.sja_run.proofs.program.reply_threads.Goals as goal

-- its text was printed
pub returns-in-Ok-clause-few : goal.returns-in-Ok-clause-few
returns-in-Ok-clause-few g c = few_left_printed c.args.threaded _ _ _ c.in-Ok.ensures.ok

-- or it was refused
pub returns-in-Err-clause-few : goal.returns-in-Err-clause-few
returns-in-Err-clause-few g c = few_left_denied c.args.threaded _ _ _ c.in-Err.ensures.err
