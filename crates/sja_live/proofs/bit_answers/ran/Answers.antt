use Rattle.sja_live.proofs.Replies.Told.{told_rose, told_ran, told_spent, not_run}
use Rattle.sja_live.proofs.bit_answers.ran.Goals as goal

-- a line rose
pub returns-in-Some : goal.returns-in-Some
returns-in-Some c =
    told_rose c.args.session.now c.watch.new.self c.lines.new.self c.args.count c.in-Ok.watched.bits
    c.in-Some.field-0 c.lines.result c.in-Ok.ensures.may (rw c.in-Some.is at c.in-Ok.ensures.watches)
    c.lines.ensures.lines c.lines.ensures.still

-- none did
pub returns-in-None : goal.returns-in-None
returns-in-None c =
    told_spent c.args.session.now c.watch.new.self c.args.count c.in-Ok.watched.bits c.in-Ok.ensures.may
    (rw c.in-None.is at c.in-Ok.ensures.watches) c.if-watched-count.true

pub returns-in-None-2 : goal.returns-in-None-2
returns-in-None-2 c =
    told_ran c.args.session.now c.watch.new.self c.args.count c.in-Ok.watched.bits c.in-Ok.ensures.may
    (rw c.in-None.is at c.in-Ok.ensures.watches) c.if-watched-count.false

-- no turn is left
pub returns-in-Err : goal.returns-in-Err
returns-in-Err c =
    not_run c.args.session.now c.watch.new.self c.args.count c.in-Err.ensures.err c.in-Err.ensures.kept
