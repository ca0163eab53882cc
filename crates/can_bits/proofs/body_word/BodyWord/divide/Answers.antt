use Rattle.std.proofs.Common.{◌≡◌, ◌*◌, ◌+◌, ◌%◌, arith}
use Rattle.can_levels.specs.Check.{IsMultiple}
use Rattle.can_levels.specs.Digits.{value}
use Rattle.can_bits.proofs.body_word.BodyWord.divide.Goals as goal

pub returns-clause-divides : goal.returns-clause-divides
returns-clause-divides c w fits h =
    let old = c.args.self.now in
    let same : old.register % 32768 ≡ old.register = omega arith in
    let divides : IsMultiple (value w * 32768 + old.register % 32768) = rw same h in
    c.crc_step-self.ensures.divides w divides
