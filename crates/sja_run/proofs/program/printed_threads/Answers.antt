use Rattle.std.proofs.lemmas.Result.{IfOk-weaker, IfErr-weaker}
use Rattle.sja_command_line.specs.Requests.{sweep}
use Rattle.sja_program.specs.Sweep.{RefusesOfPlan, RefusesSwept}
use Rattle.sja_program.proofs.Denied.{asked_denied, left_denied}
use Rattle.sja_program.proofs.Requested.Requests.{left_printed}
use Rattle.sja_run.proofs.program.printed_threads.Goals as goal

-- the text of a run
pub returns-in-Text-clause-ok : goal.returns-in-Text-clause-ok
returns-in-Text-clause-ok g c =
    rw c.in-Text.is (IfOk-weaker c.written_threads.result _ _ (λ text has. left_printed c.in-Text.what _ _ _ has)
    c.written_threads.ensures.ok)

pub returns-in-Text-clause-err : goal.returns-in-Text-clause-err
returns-in-Text-clause-err g c =
    rw c.in-Text.is (IfErr-weaker c.written_threads.result _ _ (λ why has. left_denied c.in-Text.what _ _ why has)
    c.written_threads.ensures.err)

-- a sweep
pub returns-in-Sweep-clause-ok : goal.returns-in-Sweep-clause-ok
returns-in-Sweep-clause-ok g c = rw c.in-Sweep.is c.told_sweep_jobs.ensures.ok

pub returns-in-Sweep-clause-err : goal.returns-in-Sweep-clause-err
returns-in-Sweep-clause-err g c =
    let w = c.in-Sweep.words in
    rw c.in-Sweep.is (IfErr-weaker c.told_sweep_jobs.result _ _
    (λ why has. asked_denied (sweep w) (RefusesOfPlan (RefusesSwept w)) _ _ why tt (λ r is. is) has)
    c.told_sweep_jobs.ensures.err)
