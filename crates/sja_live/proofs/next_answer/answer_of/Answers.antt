use Rattle.std.proofs.Common.{◌∙◌}
use Rattle.sja_live.proofs.Replies.LineAnswers.{answers_done, answers_mistake}
use Rattle.sja_live.proofs.next_answer.answer_of.Goals as goal

-- what the line asks for is done
pub returns-in_ok-answered-in-Ok-clause-next : goal.returns-in_ok-answered-in-Ok-clause-next
returns-in_ok-answered-in-Ok-clause-next c = λ step_runs at.
    let version = c.from-version.ensures ∙ c.version.ensures in
    answers_done c.args.session.now c.answered.new.session c.from-version.result c.is_endless-endless.result
    c.nodes-nodes.result step_runs c.args.line.now c.in-Ok.command c.in_ok-answered-in-Ok.field-0 version
    c.is_endless-endless.ensures.yes c.is_endless-endless.ensures.no c.nodes-nodes.ensures.value c.requires.readable
    c.in-Ok.ensures.ok c.in_ok-answered-in-Ok.ensures.answers at

-- its words ask for nothing
pub returns-in-Err-Mistaken-clause-next : goal.returns-in-Err-Mistaken-clause-next
returns-in-Err-Mistaken-clause-next c =
    let version = c.from-version.ensures ∙ c.version.ensures in
    rw c.in-Err-Mistaken.field-0-is (λ step_runs at. answers_mistake c.args.session.now c.from-version.result
    c.is_endless-endless.result c.nodes-nodes.result step_runs c.args.line.now c.in-Err-Mistaken.fault version
    c.is_endless-endless.ensures.yes c.is_endless-endless.ensures.no c.nodes-nodes.ensures.value c.requires.readable
    (rw c.in-Err-Mistaken.field-0-is at c.in-Err-Mistaken.ensures.err) at)
