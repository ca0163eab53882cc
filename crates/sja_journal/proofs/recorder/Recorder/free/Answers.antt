use Rattle.std.proofs.Common.{arith}
use Rattle.sja_journal.proofs.JournalEntries.Decoding.{decoded_length}
use Rattle.sja_journal.proofs.recorder.Recorder.free.Goals as goal

pub returns : goal.returns
returns c = rw (← c.self.view_is) (
    let n = decoded_length _ _ c.self.invariant.0 in let is = c.free.ensures in omega (arith, n, is))
