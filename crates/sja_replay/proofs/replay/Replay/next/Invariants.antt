use Rattle.std.proofs.Common.{◌≡◌, List, [], length}
use Rattle.sja_journal.specs.declared.entry.Entry.{Entry}
use Rattle.sja_replay.specs.Inside.Walking.{IsPast}
use Rattle.sja_replay.specs.Replaying.{left_of, IsAt}
use Rattle.sja_replay.proofs.replay.Replay.next.Given as goal

-- no bit came so far, and nothing where nothing was left
abbrev pub invariant-loop-entry : goal.invariant-loop-entry
invariant-loop-entry l =
    ((before : List Entry) → IsAt l.fn.self before → IsPast l.fn.self l.self before)
    × (left_of l.fn.self ≡ [] → left_of l.self ≡ [])

abbrev pub decreases-loop-entry : goal.decreases-loop-entry
decreases-loop-entry l = length (left_of l.self)
