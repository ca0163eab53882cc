use Rattle.sja_live.proofs.Replies.Asked.{told_strike, not_strike}
use Rattle.sja_live.proofs.answering.strike.Goals as goal

pub returns-in-Ok-clause-answers : goal.returns-in-Ok-clause-answers
returns-in-Ok-clause-answers c =
    told_strike c.args.session.now c.strike.new.self c.args.node c.args.bit c.in-Ok.ensures.may
    c.in-Ok.ensures.struck c.ranges.node.fits

pub returns-in-Some-clause-answers : goal.returns-in-Some-clause-answers
returns-in-Some-clause-answers c =
    not_strike c.args.session.now c.strike.new.self c.args.node c.args.bit c.in-Err.fault c.not_struck.result
    c.in-Some.answer c.in-Err.ensures.err c.not_struck.ensures c.in-Some.is c.in-Err.ensures.kept
