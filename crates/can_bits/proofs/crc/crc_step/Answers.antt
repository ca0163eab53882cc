use Rattle.std.proofs.Common.{◌≡◌, ◌∙◌, ◌*◌, ◌%◌, ◌^◌, sym, arith}
use Rattle.std.specs.Prelude.{bit_xor}
use Rattle.std.specs.Int.Bits.{xor_lt}
use Rattle.can_bits.specs.declared.crc.TheConstants.{GENERATOR}
use Rattle.can_levels.proofs.Checks.{Divided, Divided-same, Divided-other}
use Rattle.can_bits.proofs.crc.crc_step.Goals as goal

pub returns-then-crc-from-clause-divides : goal.returns-then-crc-from-clause-divides
returns-then-crc-from-clause-divides c b h =
    let before : Divided b c.args.crc = record { fits = c.requires; divides = h } in
    (Divided-same b c.args.crc c.args.level before
    (c.if-crc-from.true ∙ c.from.ensures ∙ c.digit.ensures.value)).divides

pub returns-else-crc-from-clause-fits : goal.returns-else-crc-from-clause-fits
returns-else-crc-from-clause-fits c = xor_lt 15 (2 * (c.args.crc % 2 ^ 14)) GENERATOR (omega arith) (omega arith)

-- `added` proves nothing here: by it a wrong body is refused with values
pub returns-else-crc-from-clause-divides : goal.returns-else-crc-from-clause-divides
returns-else-crc-from-clause-divides c b h =
    let shifted = 2 * (c.args.crc % 2 ^ 14) in
    let added : bit_xor shifted GENERATOR ≡ bit_xor shifted 0x4599 = omega arith in
    let before : Divided b c.args.crc = record { fits = c.requires; divides = h } in
    (Divided-other b c.args.crc c.args.level before
    (λ e. c.if-crc-from.false (e ∙ sym (c.from.ensures ∙ c.digit.ensures.value)))).divides
