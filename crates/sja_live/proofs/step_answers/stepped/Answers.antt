use Rattle.std.proofs.Common.{◌≡◌, Ok}
use Rattle.sja_session.specs.declared.step_outcome.StepOutcome.TheVariants.{Answer, Waits as HasToWait}
use Rattle.sja_live.proofs.Replies.Told.{told_step, told_wait, not_step}
use Rattle.sja_live.proofs.step_answers.stepped.Goals as goal

pub returns-in-Ok-Answer : goal.returns-in-Ok-Answer
returns-in-Ok-Answer c =
    let answer = c.in-Ok-Answer.answer in let was : c.step.result ≡ Ok (Answer answer) = cc in
    told_step c.args.session.now c.step.new.self c.args.node c.args.step answer c.in-Ok-Answer.ensures.may
    (c.step.ensures.done answer was) c.requires.spelled

pub returns-in-Ok-Waits : goal.returns-in-Ok-Waits
returns-in-Ok-Waits c =
    let was : c.step.result ≡ Ok HasToWait = cc in
    told_wait c.args.session.now c.step.new.self c.args.node c.args.step c.in-Ok-Waits.ensures.may
    (c.step.ensures.waits was)

pub returns-in-Err : goal.returns-in-Err
returns-in-Err c =
    not_step c.args.session.now c.step.new.self c.args.node c.args.step c.in-Err.fault c.not_done.result
    c.in-Err.ensures.err c.not_done.ensures c.in-Err.ensures.kept
