use Rattle.sja_live.proofs.Replies.Asked.{told_answer, told_nothing}
use Rattle.sja_live.proofs.answering.last_answer.Goals as goal

pub returns-in-Some : goal.returns-in-Some
returns-in-Some c =
    told_answer c.args.session.now c.args.node c.answer.result c.in-Some.answer c.answer.ensures c.in-Some.is

pub returns-in-None : goal.returns-in-None
returns-in-None c = told_nothing c.args.session.now c.args.node c.answer.result c.answer.ensures c.in-None.is
