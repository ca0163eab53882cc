use Rattle.text_trace.proofs.BitSaid.Sayings.{tells_both}
use Rattle.text_trace.proofs.events.put_events.Goals as goal

pub returns : goal.returns
returns c =
    tells_both (tells_both (tells_both (tells_both (tells_both (tells_both (tells_both (tells_both (tells_both
    (tells_both (tells_both c.in_ok-put_abort.ensures c.in_ok-put_start.ensures) c.in_ok-put_strike.ensures)
    c.in_ok-put_acknowledgement.ensures) c.in_ok-put_loss.ensures) c.in_ok-put_fault.ensures)
    c.in_ok-put_flag.ensures) c.in_ok-put_reception.ensures) c.in_ok-put_end.ensures)
    c.in_ok-put_suspension.ensures) c.in_ok-put_states.ensures) c.in_ok-put_counters.ensures
