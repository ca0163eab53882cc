use Rattle.std.proofs.Common.{◌≡◌, take}
use Rattle.std.specs.Simd.Lanes.{zip2}
use Rattle.sja_journal.specs.Inside.Codes.{code_of}
use Rattle.sja_journal.proofs.code.write_bits.Given as goal

-- the codes so far are those of the bits
abbrev pub invariant-loop-k : goal.invariant-loop-k
invariant-loop-k l = record {
  done : take l.k l.codes ≡ take l.k (zip2 code_of l.driven l.seen);
}
