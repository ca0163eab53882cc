use Rattle.std.proofs.Common.{sym, ◌∙◌}
use Rattle.can_levels.proofs.Values.{recessive_by}
use Rattle.can_node.proofs.Machine.QuietOutside.{idle_quietly}
use Rattle.can_node.proofs.node.Node.sample_quietly.Goals as goal

-- src/quiet.rt
pub returns-then-is_recessive-clause-quiet : goal.returns-then-is_recessive-clause-quiet
returns-then-is_recessive-clause-quiet c = λ goes.
    idle_quietly c.args.self.now c.args.level c.in-BusIdle.is
    (recessive_by c.args.self.now.next (sym c.is_recessive.ensures ∙ c.if-is_recessive.true))
    (recessive_by c.args.level (sym c.is_recessive-then-is_recessive.ensures ∙ goes))
