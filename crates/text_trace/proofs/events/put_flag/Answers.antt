use Rattle.std.proofs.Common.{sym, ◌∙◌}
use Rattle.text_trace.proofs.BitSaid.Sayings.{tells_not, tells_if}
use Rattle.text_trace.proofs.events.put_flag.Goals as goal

pub returns-then-not-flag_begins : goal.returns-then-not-flag_begins
returns-then-not-flag_begins c = tells_not _ _ _ (sym c.flag_begins.ensures ∙ c.if-not-flag_begins.true)

pub returns : goal.returns
returns c =
    tells_if _ _ _ _ _ (sym c.flag_begins.ensures ∙ c.if-not-flag_begins.false) c.in_ok-begin.ensures.text
    c.in_ok-put_flag_text.ensures c.in_ok-begin.ensures.begun
