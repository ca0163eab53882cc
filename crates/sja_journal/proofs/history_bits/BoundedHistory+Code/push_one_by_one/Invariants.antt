use Rattle.std.proofs.Common.{◌≡◌, ◌++◌, take}
use Rattle.std.specs.Simd.Lanes.{zip2}
use Rattle.sja_journal.specs.Inside.Codes.{code_of}
use Rattle.sja_journal.proofs.history_bits.BoundedHistory+Code.push_one_by_one.Given as goal

-- the codes so far are those of the bits
abbrev pub invariant-loop-k : goal.invariant-loop-k
invariant-loop-k l = record {
  items : l.self.items ≡ l.initial.self.items ++ take l.k (zip2 code_of l.driven l.seen);
  room : l.self.room ≡ l.initial.self.room;
}
