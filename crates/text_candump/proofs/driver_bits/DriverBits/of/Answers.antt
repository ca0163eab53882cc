use Rattle.std.proofs.Common.{ap}
use Rattle.text_trace.specs.BitEvents.{counters_after}
use Rattle.text_candump.proofs.driver_bits.DriverBits.of.Goals as goal

pub returns : goal.returns
returns c = let come = rw c.journal.ensures at c.of.ensures in record { come = come.0; left = ap counters_after come.1 }
