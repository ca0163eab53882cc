use Rattle.std.proofs.Common.{◌≡◌, ◌+◌, ◌-◌, ◌≤◌, drop, length}
use Rattle.sja_journal.specs.Inside.Codes.{is_rest, leading}
use Rattle.sja_journal.proofs.rest_bits.leading_rest.Given as goal

-- the codes so far are bits at rest
abbrev pub invariant-loop-bits : goal.invariant-loop-bits
invariant-loop-bits l = record {
  counted : l.bits + leading is_rest (drop l.bits l.codes) ≡ leading is_rest l.codes;
  few : l.bits ≤ length l.codes;
}

abbrev pub decreases-loop-bits : goal.decreases-loop-bits
decreases-loop-bits l = length l.codes - l.bits
