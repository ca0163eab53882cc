use Rattle.std.proofs.Common.{◌≡◌, ◌+◌, drop}
use Rattle.sja_journal.specs.Inside.Codes.{is_rest, leading}
use Rattle.sja_journal.proofs.rest_bits.rest_one_by_one.Given as goal

-- the codes so far are bits at rest
abbrev pub invariant-loop-code : goal.invariant-loop-code
invariant-loop-code l = record {
  counted : l.bits + leading is_rest (drop l.code-index l.codes) ≡ leading is_rest l.codes;
  bits : l.bits ≡ l.code-index;
}
