use Rattle.sja_regs.proofs.Calls.HistoryLemmas.{pending_latched, keep_pending}
use Rattle.sja_regs.proofs.laws.ir_keeps_what_was_raised.Goals as goal

pub returns-clause-kept : goal.returns-clause-kept
returns-clause-kept c = pending_latched

pub returns-clause-earlier : goal.returns-clause-earlier
returns-clause-earlier c = λ p calls by_bytes earlier unread. pending_latched p calls unread
    (keep_pending p calls by_bytes earlier)
