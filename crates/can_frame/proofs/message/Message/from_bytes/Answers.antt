use Rattle.std.proofs.Common.{arith}
use Rattle.can_frame.proofs.MessageLemmas.{is_message}
use Rattle.can_frame.proofs.message.Message.from_bytes.Goals as goal

pub invariant_of-result : goal.invariant_of-result
invariant_of-result c =
    let good = c.in_ok-judged.ensures.ok in
    rw c.of.ensures
    (is_message c.args.bytes.now (λ i. let fits = c.type_inv.bytes i in omega (arith, fits)) good.0 good.1 good.2)
