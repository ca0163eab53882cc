use Rattle.can_node.proofs.Machine.Shown.{awake_shown, idle_shown}
use Rattle.can_node.proofs.node.Node.at_rest.Goals as goal

-- src/node.rt
pub returns-in_default : goal.returns-in_default
returns-in_default c = λ entries found h. awake_shown c.phase.result _ _ (c.phase.ensures.phase entries found h)
    c.in_default.not-Reset c.in_default.not-Idle

pub returns-in-Idle : goal.returns-in-Idle
returns-in-Idle c = λ entries found h.
    idle_shown c.args.self.now entries found h c.phase.result c.is_none.result c.in-Idle.is
    (c.phase.ensures.phase entries found h) c.is_none.ensures
