use Rattle.sja_live.proofs.Replies.Told.{told_read, not_read}
use Rattle.sja_live.proofs.step_answers.was_read.Goals as goal

pub returns-in-Ok : goal.returns-in-Ok
returns-in-Ok c =
    told_read c.args.session.now c.read.new.self c.args.node c.args.address c.in-Ok.value c.in-Ok.ensures.may
    c.in-Ok.ensures.reads c.ranges.address.fits

pub returns-in-Err : goal.returns-in-Err
returns-in-Err c =
    not_read c.args.session.now c.read.new.self c.args.node c.args.address c.in-Err.fault c.not_done.result
    c.in-Err.ensures.err c.not_done.ensures c.in-Err.ensures.kept
