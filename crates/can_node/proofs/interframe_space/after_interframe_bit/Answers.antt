use Rattle.std.proofs.Common.{◌≡◌, ◌+◌, sym, arith, ◌∙◌}
use Rattle.can_node_rules.specs.Context.{interframe_count}
use Rattle.can_node_rules.proofs.OneCut.InterframeSpaces.{interframe_owed, interframe_short}
use Rattle.can_node_rules.proofs.Waiting.InterframeSpaces.{interframe_ends, interframe_breaks, interframe_sof}
use Rattle.can_node.proofs.interframe_space.after_interframe_bit.Goals.{then-owed, else-owed}
use Rattle.can_node.proofs.interframe_space.after_interframe_bit.Goals as goal

pub returns-then-bits-lt-LAST_OF_INTERMISSION : goal.returns-then-bits-lt-LAST_OF_INTERMISSION
returns-then-bits-lt-LAST_OF_INTERMISSION c shift before now done owed h =
    interframe_breaks before c.args.bits c.args.seen done c.in-Dominant.is c.if-bits-lt-LAST_OF_INTERMISSION.true h

pub returns-else-bits-lt-LAST_OF_INTERMISSION : goal.returns-else-bits-lt-LAST_OF_INTERMISSION
returns-else-bits-lt-LAST_OF_INTERMISSION c shift before now done owed h =
    interframe_sof before c.args.bits c.args.seen done c.in-Dominant.is (omega arith) h

pub returns-else-bits-last : goal.returns-else-bits-last
returns-else-bits-last c shift before now done owed h =
    let count : interframe_count before ≡ c.if-owed.last + 1 =
    elim c.if-owed.branch [
      | then-owed w ↦ omega (arith, w.last-is, interframe_owed before (sym owed ∙ w.if-owed.true))
      | else-owed w ↦ omega (arith, w.last-is, interframe_short before (sym owed ∙ w.if-owed.false))
    ] in
    interframe_ends before c.args.bits c.args.seen done c.in-Recessive.is (omega arith) h
