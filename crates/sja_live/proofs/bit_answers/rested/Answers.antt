use Rattle.sja_live.proofs.Replies.Told.{told_rest, at_no_rest}
use Rattle.sja_live.proofs.bit_answers.rested.Goals as goal

pub returns-in-Ok : goal.returns-in-Ok
returns-in-Ok c =
    told_rest c.args.session.now c.rest.new.self c.in-Ok.rested.bits c.in-Ok.ensures.may
    (rw c.if-rested.true at c.in-Ok.ensures.rests)

pub returns-in-Ok-2 : goal.returns-in-Ok-2
returns-in-Ok-2 c =
    at_no_rest c.args.session.now c.rest.new.self c.in-Ok.rested.bits c.in-Ok.ensures.may
    (rw c.if-rested.false at c.in-Ok.ensures.rests)
