use Rattle.std.proofs.lemmas.Result.{on_ok_weaker, IfErr-weaker}
use Rattle.can_levels.proofs.Readables.{faultless_readable}
use Rattle.can_bits.proofs.Whole.FirstFault.{first_fault}
use Rattle.can_bits.proofs.shift.Shift.advance_answered.Goals as goal

pub returns-in-Some-clause-fault : goal.returns-in-Some-clause-fault
returns-in-Some-clause-fault c l later h good =
    let judged = c.in-Some.ensures.judged l h (faultless_readable l good) in
    first_fault l later c.args.level c.in-Some.wrong.fault good judged.1

pub returns-in-None-clause-good : goal.returns-in-None-clause-good
returns-in-None-clause-good c =
    on_ok_weaker c.judge_answered.result
    (λ judged l h good. judged l (c.advance.ensures.stands l h)
    (c.in-None.ensures.judged l h (faultless_readable l good)) good)
    c.judge_answered.ensures.good

pub returns-in-None-clause-fault : goal.returns-in-None-clause-fault
returns-in-None-clause-fault c =
    IfErr-weaker c.judge_answered.result _ _
    (λ e judged l later h good.
    judged l later (c.advance.ensures.stands l h) (c.in-None.ensures.judged l h (faultless_readable l good)) good)
    c.judge_answered.ensures.fault
