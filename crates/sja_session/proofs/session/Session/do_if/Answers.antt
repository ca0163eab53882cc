use Rattle.sja_session.proofs.StepsDone.Accessing.{does_none}
use Rattle.sja_session.proofs.session.Session.do_if.Goals as goal

-- no step
pub returns-in_default : goal.returns-in_default
returns-in_default c = λ step_runs at. rw c.in_default.is (does_none c.args.self.now c.args.node step_runs at)

-- one step
pub returns-in-Some : goal.returns-in-Some
returns-in-Some c = λ step_runs at. rw c.in-Some.is (c.do_one.ensures step_runs at)
