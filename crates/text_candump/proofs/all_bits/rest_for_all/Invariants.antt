use Rattle.std.proofs.Common.{◌<◌, ◌≤◌, ℕ}
use Rattle.std.specs.Prelude.{slice_index_or}
use Rattle.text_candump.specs.Inside.CandumpProgress.{MayStay}
use Rattle.text_candump.specs.declared.driver_bits.DriverBits.{DriverBits}
use Rattle.text_candump.proofs.all_bits.rest_for_all.Given as goal

-- those so far rest for so many bits
abbrev pub invariant-loop-bits : goal.invariant-loop-bits
invariant-loop-bits l = record {
  most : l.count ≤ l.most;
  rests : 0 < l.count → (k : ℕ) (d : DriverBits) → k < l.bits-index → MayStay l.count (slice_index_or l.all k d);
}
