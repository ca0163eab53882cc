use Rattle.std.proofs.Common.{◌≡◌, false, inl}
use Rattle.std.proofs.lemmas.Result.{IfOk-weaker, IfErr-weaker}
use Rattle.sja_command_line.specs.Requests.{registers, request_of, sweep, struck_plan, spelled_plan}
use Rattle.sja_program.specs.Answer.{request_for}
use Rattle.sja_program.specs.PlanDocument.{RefusesInputSpelled}
use Rattle.sja_program.specs.Registers.{RefusesRegisters}
use Rattle.sja_program.specs.Sweep.{RefusesOfPlan, RefusesStruck, RefusesSwept}
use Rattle.sja_program.proofs.Denied.{asked_denied}
use Rattle.sja_program.proofs.Requested.Requests.{once_printed}
use Rattle.sja_program.proofs.answer.printed.Goals as goal

-- the text of a run
pub returns-in_default-clause-ok : goal.returns-in_default-clause-ok
returns-in_default-clause-ok g c =
    let asks : request_of c.args.task ≡ request_for false c.text_asked.result =
    cc (c.text_asked.ensures, c.in_default.of_run-is) in
    IfOk-weaker c.write_text.result _ _ (λ text has. once_printed _ c.text_asked.result _ _ _ asks has)
    c.write_text.ensures.ok

-- a sweep
pub returns-in-Sweep-clause-ok : goal.returns-in-Sweep-clause-ok
returns-in-Sweep-clause-ok g c = rw c.in-Sweep.is c.told_sweep.ensures.ok

pub returns-in-Sweep-clause-err : goal.returns-in-Sweep-clause-err
returns-in-Sweep-clause-err g c =
    let w = c.in-Sweep.words in
    rw c.in-Sweep.is (IfErr-weaker c.told_sweep.result _ _
    (λ why has. asked_denied (sweep w) (RefusesOfPlan (RefusesSwept w)) _ _ why tt (λ r is. is) has)
    c.told_sweep.ensures.err)

-- a plan with a strike more
pub returns-in-StruckPlan-clause-err : goal.returns-in-StruckPlan-clause-err
returns-in-StruckPlan-clause-err g c =
    let node = c.in-StruckPlan.node in
    let bit = c.in-StruckPlan.bit in
    rw c.in-StruckPlan.is (IfErr-weaker c.strike.result _ _
    (λ why has.
    asked_denied (struck_plan node bit) (RefusesOfPlan (RefusesStruck node bit)) _ _ why tt (λ r is. is) has)
    c.strike.ensures.err)

-- the registers after a bit
pub returns-in-Registers-clause-err : goal.returns-in-Registers-clause-err
returns-in-Registers-clause-err g c =
    rw c.in-Registers.is (IfErr-weaker c.registers.result _ _
    (λ why has.
    asked_denied (registers c.in-Registers.bit) (RefusesOfPlan (RefusesRegisters c.in-Registers.bit)) _ _ why tt
    (λ r is. is) has)
    c.registers.ensures.err)

-- a plan as it is written
pub returns-in-Plan-clause-err : goal.returns-in-Plan-clause-err
returns-in-Plan-clause-err g c =
    rw c.in-Plan.is (IfErr-weaker c.spelled_input.result _ _
    (λ why has. asked_denied spelled_plan RefusesInputSpelled _ _ why tt (λ r is. is) has)
    c.spelled_input.ensures.err)
