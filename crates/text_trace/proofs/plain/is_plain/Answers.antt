use Rattle.std.proofs.Common.{sym, ◌∙◌}
use Rattle.text_trace.proofs.BitSaid.Shorts.{plain_none}
use Rattle.text_trace.proofs.plain.is_plain.Goals as goal

pub returns : goal.returns
returns c = λ plain by_bytes.
    plain_none by_bytes c.args.bus c.args.left c.args.bit.now (sym c.is_same.ensures ∙ c.if-not-is_same.false)
    (sym c.have_same.ensures ∙ c.if-not-have_same.false) (c.may_start.ensures.none c.if-may_start.false)
    (sym c.acknowledges.ensures ∙ c.if-acknowledges.false)
