use Rattle.std.proofs.Common.{arith}
use Rattle.sja_journal.proofs.JournalEntries.Decoding.{decoded_length}
use Rattle.sja_journal.proofs.recorder.Recorder.is_full.Goals as goal

pub returns-clause-full : goal.returns-clause-full
returns-clause-full c = λ t. rw (← c.self.view_is) (
    let n = decoded_length _ _ c.self.invariant.0 in let more = c.is_full.ensures.full t in omega (arith, n, more))

pub returns-clause-room : goal.returns-clause-room
returns-clause-room c = λ t. rw (← c.self.view_is) (
    let n = decoded_length _ _ c.self.invariant.0 in let few = c.is_full.ensures.free t in omega (arith, n, few))
