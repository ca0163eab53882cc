use Rattle.can_node.proofs.node.Node.drive.Goals as goal

-- src/node.rt
pub returns : goal.returns
returns c = λ entries found h. h.next
