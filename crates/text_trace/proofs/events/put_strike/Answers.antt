use Rattle.std.proofs.Common.{not, sym, ap, ◌∙◌}
use Rattle.text_trace.proofs.BitSaid.Sayings.{tells_not, tells_if}
use Rattle.text_trace.proofs.events.put_strike.Goals as goal

pub returns-then-is_same : goal.returns-then-is_same
returns-then-is_same c = tells_not _ _ _ (ap not (sym c.is_same.ensures ∙ c.if-is_same.true))

pub returns : goal.returns
returns c =
    tells_if _ _ _ _ _ (ap not (sym c.is_same.ensures ∙ c.if-is_same.false)) c.in_ok-begin.ensures.text
    c.in_ok-put_strike_text.ensures c.in_ok-begin.ensures.begun
