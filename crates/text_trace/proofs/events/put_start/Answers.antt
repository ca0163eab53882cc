use Rattle.std.proofs.Common.{sym, ◌∙◌}
use Rattle.text_trace.proofs.BitSaid.Sayings.{tells_not, tells_if}
use Rattle.text_trace.proofs.events.put_start.Goals as goal

pub returns-then-not-is_start : goal.returns-then-not-is_start
returns-then-not-is_start c = tells_not _ _ _ (sym c.is_start.ensures ∙ c.if-not-is_start.true)

pub returns : goal.returns
returns c =
    tells_if _ _ _ _ _ (sym c.is_start.ensures ∙ c.if-not-is_start.false) c.in_ok-begin.ensures.text
    c.in_ok-put_start_text.ensures c.in_ok-begin.ensures.begun
