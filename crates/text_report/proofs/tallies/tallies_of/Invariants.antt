use Rattle.std.proofs.Common.{◌≡◌, ◌<◌, ◌≤◌, ◌+◌, ◌*◌, ◌^◌, ◌++◌, length, map}
use Rattle.sja_journal.specs.Between.{between_bits}
use Rattle.text_report.specs.Inside.Tallies.{tally_value, no_tally, tallied}
use Rattle.text_report.proofs.tallies.tallies_of.Given as goal

-- the tallies that are whole, and those from the present one on, are all; and the entries left have room in the sums
abbrev pub invariant-loop-entry : goal.invariant-loop-entry
invariant-loop-entry l = record {
  tallies : map tally_value l.ended.items ++ tallied (tally_value l.tally) l.entry-iterator
      ≡ tallied no_tally (between_bits l.journal.entries);
  stored : l.tally.stored + length l.entry-iterator < 2 ^ 64;
  bytes : l.tally.bytes + 255 * length l.entry-iterator < 2 ^ 72;
  credits : l.tally.credits + 255 * length l.entry-iterator < 2 ^ 72;
}
