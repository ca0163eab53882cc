use Rattle.text_trace.proofs.BitSaid.Sayings.{tells_both}
use Rattle.text_trace.proofs.events.put_all.Goals as goal

pub returns : goal.returns
returns c =
    tells_both c.in_ok-put_all_events.ensures
    (tells_both c.in_ok-put_start_cause.ensures c.in_ok-put_bit_cause.ensures)
