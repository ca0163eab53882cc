use Rattle.sja_live.proofs.Replies.Told.{told_write, not_write}
use Rattle.sja_live.proofs.step_answers.was_written.Goals as goal

pub returns-in-Ok : goal.returns-in-Ok
returns-in-Ok c =
    told_write c.args.session.now c.write.new.self c.args.node c.args.address c.args.value c.in-Ok.ensures.may
    c.in-Ok.ensures.writes c.ranges.address.fits c.ranges.value.fits

pub returns-in-Err : goal.returns-in-Err
returns-in-Err c =
    not_write c.args.session.now c.write.new.self c.args.node c.args.address c.args.value c.in-Err.fault
    c.not_done.result c.in-Err.ensures.err c.not_done.ensures c.in-Err.ensures.kept
