use Rattle.std.proofs.Common.{◌≡◌, rules}
use Rattle.std.specs.Prelude.{Err}
use Rattle.lemmas.proofs.Results.{err_is}
use Rattle.sja_live.proofs.Talks.BreakingOff.{talk_breaks, talk_stops, talk_unanswered}
use Rattle.sja_live.proofs.Talks.GoingOn.{talk_begins, talk_goes_on}
use Rattle.sja_live.proofs.talking.answer_lines.Goals as goal

-- no line was answered yet
pub loop-init : goal.loop-init
loop-init g c = record {
  goes = λ before begun. talk_begins _ _ _ _ begun.opening c.args.session.now begun.said begun.new
      c.in_ok-put.ensures.told;
  live = c.requires;
}

-- a line more was answered
pub loop-preserved : goal.loop-preserved
loop-preserved g c = record {
  goes = λ before begun. talk_goes_on _ _ _ _ _ _ c.loop.session c.next_answer.new.session c.in-Some.answer
      (c.loop.invariant.goes before begun) (rw c.in-Some.is at c.in_ok-answer.ensures.next)
      c.in_ok-put_line.ensures.told;
  live = c.in_ok-answer.ensures.live;
}

-- the talk is over
pub returns-in_default-clause-over : goal.returns-in_default-clause-over
returns-in_default-clause-over g c = λ before begun. record {
  last = c.loop.session;
  rest = _;
  goes = c.loop.invariant.goes before begun;
  ends = rw c.in_default.is at c.in_ok-answer.ensures.next;
}

-- the next line wasn't read, or memory was refused for its answer
pub returns-in_err-answer-clause-broken : goal.returns-in_err-answer-clause-broken
returns-in_err-answer-clause-broken g c =
    let f = c.in_err-answer.field-0.0 in
    let is : c.from_residual-in_err-answer.result ≡ Err f = search rules in
    err_is _ c.from_residual-in_err-answer.result f is (λ other before begun. talk_breaks _ _ _ _ _ c.loop.session f
    (c.loop.invariant.goes before begun) c.in_err-answer.ensures.broken)

-- or for the text of the answer
pub returns-in_err-put_line-clause-broken : goal.returns-in_err-put_line-clause-broken
returns-in_err-put_line-clause-broken g c =
    let f = c.in_err-put_line.field-0.0 in
    let is : c.from_residual-in_err-put_line.result ≡ Err f = search rules in
    err_is _ c.from_residual-in_err-put_line.result f is (λ other before begun. talk_unanswered _ _ _ _ _ _
    c.loop.session c.next_answer.new.session _ f (c.loop.invariant.goes before begun) c.in_ok-answer.ensures.next
    (c.in_err-put_line.ensures.memory other) (c.in_err-put_line.ensures.kept other))

-- no more lines are read
pub returns-clause-broken : goal.returns-clause-broken
returns-clause-broken g c = λ other before begun. talk_stops _ _ _ _ _ (c.loop.invariant.goes before begun)
