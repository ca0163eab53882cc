use Rattle.sja_session.proofs.StepsDone.Accessing.{does_one, may_one_step}
use Rattle.sja_session.proofs.session.Session.do_one.Goals as goal

pub do_prompt-requires-clause-may : goal.do_prompt-requires-clause-may
do_prompt-requires-clause-may c = may_one_step _ c.args.node c.requires.may

pub returns : goal.returns
returns c = λ step_runs at.
    does_one c.args.self.now c.do_prompt.new.self c.args.node c.args.step c.do_prompt.result step_runs
    (c.do_prompt.ensures step_runs at) at c.requires.may.there
