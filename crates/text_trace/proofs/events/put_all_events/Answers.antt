use Rattle.text_trace.proofs.BitSaid.Sayings.{tells_both}
use Rattle.text_trace.proofs.events.put_all_events.Goals as goal

pub returns : goal.returns
returns c = tells_both c.in_ok-put_restart.ensures c.in_ok-put_events.ensures
