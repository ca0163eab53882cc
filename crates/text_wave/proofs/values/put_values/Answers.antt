use Rattle.text_report.proofs.WrittenLines.Written.{five_texts}
use Rattle.text_wave.proofs.values.put_values.Goals as goal

pub returns : goal.returns
returns c =
    five_texts _ _ _ _ _ _ _ _ _ _ _ c.in_ok-writeln.ensures.bytes c.in_ok-writeln-2.ensures.bytes
    (rw c.bus_now-bus.ensures at c.in_ok-put_bus.ensures)
    (rw c.bus_now-bus.ensures at c.in_ok-put_all_values.ensures) c.in_ok-writeln-3.ensures.bytes
