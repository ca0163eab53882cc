use Rattle.std.proofs.Common.{refl}
use Rattle.can_node.proofs.Machine.Quiet.{quietly}
use Rattle.can_node.proofs.Machine.QuietOutside.{goes_outside}
use Rattle.can_node.proofs.node.Node.other_bit_quietly.Goals as goal

-- src/quiet.rt
pub returns-else-ne-clause-quiet : goal.returns-else-ne-clause-quiet
returns-else-ne-clause-quiet c = λ goes.
    quietly c.args.self.now _ c.args.level refl refl
    (goes_outside c.args.self.now c.in-Some.stage c.args.level
    (c.quiet_stage.ensures.turns c.in-Some.stage c.in-Some.is)
    (c.quiet_stage.ensures.outside c.in-Some.stage c.in-Some.is))
