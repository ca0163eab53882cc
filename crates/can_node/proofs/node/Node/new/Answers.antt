use Rattle.std.proofs.Common.{refl, []}
use Rattle.can_node.specs.declared.node.Node.{Node}
use Rattle.can_node.proofs.Machine.Calls.{new_stands, new_holds}
use Rattle.can_node.proofs.Machine.Shown.{stands_up, reset_drives}
use Rattle.can_node.proofs.node.Node.new.Goals as goal

-- src/node.rt
pub returns-clause-stands : goal.returns-clause-stands
returns-clause-stands c =
    let node : Node = record {
      context = c.new.result;
      stage = _;
      shift = c.new-2.result;
      body = c.empty.result;
      next = _;
    } in
    stands_up node [] [] (new_stands node refl c.new.ensures) (new_holds node c.new.ensures)
    (reset_drives node node.next refl refl)
