use Rattle.can_node.proofs.Waiting.DominantFlags.{dominant_more, flag_breaks}
use Rattle.can_node.proofs.flag.after_dominant_flag_bit.Goals as goal

pub returns-in-Dominant : goal.returns-in-Dominant
returns-in-Dominant c shift before now done drives kind h =
    rw c.one_more.ensures (dominant_more shift before now c.args.bits c.args.seen done drives c.in-Dominant.is h)

pub returns-in-Recessive : goal.returns-in-Recessive
returns-in-Recessive c shift before now done drives kind h =
    flag_breaks before c.args.bits c.args.seen c.args.kind c.segment_of.result done drives c.in-Recessive.is kind
    c.segment_of.ensures h
