use Rattle.std.proofs.Common.{◌∙◌, ap, arith}
use Rattle.can_bits.specs.declared.body_word.BodyWord.{BodyWord}
use Rattle.can_bits.proofs.Packing.Pushes.{push_stays}
use Rattle.can_bits.proofs.body_word.BodyWord.push_before_mark.Goals as goal

pub returns-clause-bit : goal.returns-clause-bit
returns-clause-bit c w g room =
    let kept = c.divide.ensures.kept in
    push_stays c.args.self.now c.divide.new.self w c.args.level c.from.result g room
    (c.from.ensures ∙ c.digit.ensures.value) kept c.divide.ensures.fits (c.divide.ensures.divides w g.fits g.divides)
    (omega (arith, c.requires, ap (λ (m : BodyWord). m.place) kept, ap (λ (m : BodyWord). m.mark) kept))
