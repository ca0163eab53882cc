use Rattle.std.proofs.Common.{ap}
use Rattle.std.specs.Prelude.{Err}
use Rattle.sja_journal.specs.Lists.{on, is_on, same_on}
use Rattle.sja_driver.specs.Drivers.{activation_in}
use Rattle.sja_driver.proofs.Step.Releasing.{released_acts, unmet_acts}
use Rattle.sja_driver.proofs.active_steps.release_step.Goals as goal

pub returns-in-Ok-clause-acts : goal.returns-in-Ok-clause-acts
returns-in-Ok-clause-acts g c =
    let e = g.E.DriverEnd in
    let t = c.in-Ok.ensures.tried in
    let a = activation_in c.in-InActive.driver in
    λ p. rw c.in-InActive.is
    (released_acts (same_on e.same e.stands a) (on e.stands a) (is_on e.dry a) (is_on e.full a) _ _
    c.in-InActive.driver c.release_message.new.self
    c.release_message.ensures.link _ t.on t.ok p)

pub returns-in-Err-Busy-clause-acts : goal.returns-in-Err-Busy-clause-acts
returns-in-Err-Busy-clause-acts g c =
    let e = g.E.DriverEnd in
    let t = c.in-Err-Busy.ensures.tried in
    let a = activation_in c.in-InActive.driver in
    λ p. rw c.in-InActive.is
    (unmet_acts (same_on e.same e.stands a) (on e.stands a) (is_on e.dry a) (is_on e.full a) _ _
    c.in-InActive.driver c.release_message.new.self
    c.release_message.ensures.link t.err (t.busy (ap (λ x. Err x) c.in-Err-Busy.field-0-is)) p)
