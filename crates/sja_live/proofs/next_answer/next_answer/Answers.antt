use Rattle.std.proofs.Common.{List, subst}
use Rattle.std.proofs.lemmas.Result.{IfOk-weaker}
use Rattle.sja_live.specs.Inside.LiveProgress.{IsAnswerOf}
use Rattle.sja_live.specs.Inside.Reading.{TakesLine}
use Rattle.sja_live.proofs.Replies.LineAnswers.{next_told}
use Rattle.sja_live.proofs.next_answer.next_answer.Goals as goal

-- a line that is a text is answered as what it asks for is
pub returns-in-Text-clause-next : goal.returns-in-Text-clause-next
returns-in-Text-clause-next g c =
    let before = g.R.Read.remaining c.args.input.now in let after = g.R.Read.remaining c.next_line.new.input in
    let was = c.args.session.now in let now = c.answer_of.new.session in
    let taken = subst (TakesLine before after) c.in-Text.is c.in_ok-next_line.ensures.line in
    IfOk-weaker c.answer_of.result _ _ (λ next answers step_runs at.
    let A : List _ → Type 0 = λ l. IsAnswerOf was now step_runs l next in
    next_told before after c.in-Text.line was now step_runs next taken
    (subst A c.as_str.ensures.value (answers step_runs at))) c.answer_of.ensures.next
