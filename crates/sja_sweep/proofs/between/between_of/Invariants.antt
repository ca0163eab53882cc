use Rattle.std.proofs.Common.{◌≡◌, ◌+◌, ◌<◌, ◌^◌, ◌++◌, length}
use Rattle.sja_journal.specs.Carried.{overrun_of}
use Rattle.sja_sweep.specs.Changes.{times_off}
use Rattle.sja_sweep.proofs.between.between_of.Given as goal

-- what was found, and what the rest has, are all
abbrev pub invariant-loop-entry : goal.invariant-loop-entry
invariant-loop-entry l = record {
  overrun : l.overrun.items ++ overrun_of l.entry-iterator ≡ overrun_of l.journal.entries;
  off : l.off + times_off l.entry-iterator ≡ times_off l.journal.entries;
  room : l.off + length l.entry-iterator < 2 ^ 64;
}
