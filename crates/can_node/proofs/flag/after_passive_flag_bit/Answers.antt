use Rattle.std.proofs.Common.{◌≡◌, ◌≢◌, rules}
use Rattle.can_node.proofs.Waiting.PassiveFlags.{passive_more, passive_other}
use Rattle.can_node.proofs.flag.after_passive_flag_bit.Goals as goal

pub returns-then-eq : goal.returns-then-eq
returns-then-eq c shift before now done drives h =
    let same : c.args.seen ≡ c.args.last = search rules in
    rw c.one_more.ensures (passive_more shift before now c.args.bits c.args.last c.args.seen done drives same h)

pub returns-else-eq : goal.returns-else-eq
returns-else-eq c shift before now done drives h =
    let other : c.args.seen ≢ c.args.last = search rules in
    rw c.one_more-else-eq.ensures (passive_other shift before now c.args.bits c.args.last c.args.seen done drives other
    h)
