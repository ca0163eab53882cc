use Rattle.sja_plan_reading.proofs.Strange.{strange_is}
use Rattle.sja_plan_reading.proofs.Refusals.{refuses_err}
use Rattle.sja_plan_reading.proofs.RefusedTexts.{reads_apart}
use Rattle.sja_plan_reading.proofs.tables.strange.is_strange.Goals as goal

pub returns-clause-strange : goal.returns-clause-strange
returns-clause-strange c found =
    strange_is c.args.text.now c.in_ok-room.room c.in_ok-room.ensures.ok (c.is_off-strange.ensures found)
    c.in_ok-judge.ensures.good

pub returns-in_err-judge-clause-bad : goal.returns-in_err-judge-clause-bad
returns-in_err-judge-clause-bad c =
    let (is, same, reads, _) = c.in_ok-room.ensures.ok in
    refuses_err c.from_residual-in_err-judge.result c.in_err-judge.field-0.0 _ c.from_residual-in_err-judge.ensures.1
    λ refused. reads_apart c.args.text.now is _ same (c.in_err-judge.ensures.bad refused) reads
