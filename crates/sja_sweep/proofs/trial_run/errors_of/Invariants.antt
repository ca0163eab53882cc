use Rattle.std.proofs.Common.{length}
use Rattle.sja_replay.specs.Replaying.{left_of}
use Rattle.sja_sweep.proofs.TriedRuns.ErrorLemmas.{AreErrorsSoFar}
use Rattle.sja_sweep.proofs.trial_run.errors_of.Given as goal

-- the errors of the bits so far
abbrev pub invariant-loop-bit_event : goal.invariant-loop-bit_event
invariant-loop-bit_event l = AreErrorsSoFar l.fn.journal.entries l.replay l.errors.items

-- the entries that are left get fewer
abbrev pub decreases-loop-bit_event : goal.decreases-loop-bit_event
decreases-loop-bit_event l = length (left_of l.replay)
