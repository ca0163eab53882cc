use Rattle.std.proofs.Common.{◌≡◌, length}
use Rattle.text_wave.specs.Through.{through}
use Rattle.text_wave.specs.Inside.Cursors.{all_entered, past}
use Rattle.text_wave.proofs.cursor.Cursor.take_entries.Given as goal

-- the entries that are left come to the same
abbrev pub invariant-loop-entry : goal.invariant-loop-entry
invariant-loop-entry l = record {
  showed : l.self.showed ≡ l.fn.self.showed;
  shows : all_entered l.self.shows (through 1 l.self.entries)
      ≡ all_entered l.fn.self.shows (through 1 l.fn.self.entries);
  left : past 1 l.self.entries ≡ past 1 l.fn.self.entries;
}

abbrev pub decreases-loop-entry : goal.decreases-loop-entry
decreases-loop-entry l = length l.self.entries
