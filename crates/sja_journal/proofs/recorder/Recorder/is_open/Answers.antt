use Rattle.std.proofs.Common.{arith}
use Rattle.sja_journal.proofs.JournalEntries.Decoding.{decoded_length}
use Rattle.sja_journal.proofs.recorder.Recorder.is_open.Goals as goal

pub returns : goal.returns
returns c = λ t. rw (← c.self.view_is) (
    let n = decoded_length _ _ c.self.invariant.0 in let few = c.is_open.ensures t in omega (arith, n, few))
