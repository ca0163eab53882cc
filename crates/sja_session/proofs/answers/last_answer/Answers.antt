use Rattle.std.proofs.Common.{◌≡◌, ap, sym, ◌∙◌}
use Rattle.std.specs.Prelude.{Some, slice_index_or}
use Rattle.std.proofs.lemmas.List.{get_or_default}
use Rattle.sja_driver.specs.LoggedDrivers.{log_of}
use Rattle.sja_driver.specs.Logs.{done_in}
use Rattle.sja_steps.specs.declared.step_record.StepRecord.{StepRecord}
use Rattle.sja_session.specs.Answering.{last_of}
use Rattle.sja_session.proofs.StepsDone.LastAnswer.{last_pushed}
use Rattle.sja_session.proofs.answers.last_answer.Goals.{After-last_done}
use Rattle.sja_session.proofs.answers.last_answer.Goals as goal

-- what the log of this driver has
log_is : (c : After-last_done) → c.log.result.now ≡ log_of c.driver.result.now
log_is c = c.log.ensures

pub returns-in-Some : goal.returns-in-Some
returns-in-Some c = λ d.
    let drivers = c.args.run.now.drivers in let last = c.in-Some.ensures.last in
    let at = (goal.at.returns-in-Some c).After-last_done in
    let log : done_in c.log.result.now ≡ done_in (log_of (slice_index_or drivers c.args.node d)) =
    ap done_in (log_is at) ∙ ap (λ x. done_in (log_of x))
    (c.driver.ensures ∙ get_or_default drivers c.args.node c.driver.result.now d c.requires) in
    ap (λ a. Some a) c.copy.ensures
    ∙ sym (last_pushed (λ (x : StepRecord). x.answer) last.before c.in-Some.last.now)
    ∙ sym (ap (λ l. last_of (λ (x : StepRecord). x.answer) l) last.whole)
    ∙ ap (λ l. last_of (λ (x : StepRecord). x.answer) l) log

pub returns-in-None : goal.returns-in-None
returns-in-None c = λ d.
    let drivers = c.args.run.now.drivers in
    let at = (goal.at.returns-in-None c).After-last_done in
    let log : done_in c.log.result.now ≡ done_in (log_of (slice_index_or drivers c.args.node d)) =
    ap done_in (log_is at) ∙ ap (λ x. done_in (log_of x))
    (c.driver.ensures ∙ get_or_default drivers c.args.node c.driver.result.now d c.requires) in
    sym (ap (λ l. last_of (λ (x : StepRecord). x.answer) l) (c.last_done.ensures.none c.in-None.is))
    ∙ ap (λ l. last_of (λ (x : StepRecord). x.answer) l) log
