use Rattle.std.proofs.Common.{◌≡◌, ◌&&◌, drop}
use Rattle.std.specs.List.{list_all}
use Rattle.sja_journal.specs.Inside.Codes.{is_rest}
use Rattle.sja_journal.proofs.rest_bits.are_rest.Given as goal

-- whether the codes so far are bits at rest
abbrev pub invariant-loop-code : goal.invariant-loop-code
invariant-loop-code l = (l.all && list_all is_rest (drop l.code-index l.codes)) ≡ list_all is_rest l.codes
