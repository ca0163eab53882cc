use Rattle.text_trace.proofs.BitSaid.Sayings.{tells_both}
use Rattle.text_trace.proofs.counters.put_confinement.Goals as goal

pub returns : goal.returns
returns c =
    tells_both (rw c.comes_to_warn.ensures at c.in_ok-say_if.ensures)
    (rw (c.state.ensures, c.state-2.ensures) at c.in_ok-put_change.ensures)
