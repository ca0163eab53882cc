use Rattle.std.proofs.Common.{Option, ap, ◌∙◌}
use Rattle.can_levels.specs.declared.level.Level.{Level}
use Rattle.can_bits.specs.Sending.{or_crc}
use Rattle.can_bits.proofs.PackedLevels.{packed_next}
use Rattle.can_bits.proofs.body_word.BodyWord.next_of.Goals as goal

pub returns-in-Some-clause-packed : goal.returns-in-Some-clause-packed
returns-in-Some-clause-packed c = ap (λ (o : Option Level). or_crc o c.args.self.now) c.in-Some.ensures.packed

pub returns-in-Some-clause-of_frame : goal.returns-in-Some-clause-of_frame
returns-in-Some-clause-of_frame c f w check t x is g right whole =
    returns-in-Some-clause-packed c ∙ packed_next c.args.self.now c.args.body.now f w check t x is g right whole

pub returns-in-None-clause-packed : goal.returns-in-None-clause-packed
returns-in-None-clause-packed c =
    c.next_of_crc.ensures.packed ∙ ap (λ (o : Option Level). or_crc o c.args.self.now) c.in-None.ensures.packed

pub returns-in-None-clause-of_frame : goal.returns-in-None-clause-of_frame
returns-in-None-clause-of_frame c f w check t x is g right whole =
    returns-in-None-clause-packed c ∙ packed_next c.args.self.now c.args.body.now f w check t x is g right whole
