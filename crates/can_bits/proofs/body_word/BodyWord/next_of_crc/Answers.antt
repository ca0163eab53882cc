use Rattle.std.proofs.Common.{◌∙◌}
use Rattle.can_bits.proofs.NextLevels.{next_check}
use Rattle.can_bits.proofs.body_word.BodyWord.next_of_crc.Goals as goal

pub returns-clause-of_frame : goal.returns-clause-of_frame
returns-clause-of_frame c b check w t x g right whole past =
    c.of.ensures ∙ next_check b check w t x c.args.self.now.register right whole past g.fits g.divides
