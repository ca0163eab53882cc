use Rattle.std.proofs.Common.{◌≡◌, true, arith}
use Rattle.can_node.proofs.node.Node.acknowledgement.Goals as goal

-- src/drive.rt: `due` by `grind`, so that another acknowledgement is refused by values
pub returns-then-not-self : goal.returns-then-not-self
returns-then-not-self c =
    let due : c.ack_is_due-due.result ≡ true = grind arith in
    λ l stands. rw c.if-not-self.true ((c.ack_is_due-due.ensures l stands).0 due)
