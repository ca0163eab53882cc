use Rattle.std.proofs.Common.{[]}
use Rattle.can_node.specs.Standing.{context_of}
use Rattle.can_node.proofs.Machine.FrameStarts.{starts_frame}
use Rattle.can_node.proofs.node.Node.begin_frame.Goals as goal

-- src/next_place.rt
pub returns-clause-reads : goal.returns-clause-reads
returns-clause-reads c = λ before body same.
    starts_frame c.advance.new.self (context_of c.args.self.now.context) before same (λ request e. (body request e).0)
    (c.advance.ensures.stands [] c.new-self.ensures)
