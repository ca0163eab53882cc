use Rattle.std.proofs.Common.{ap, ◌∙◌}
use Rattle.text_wave.specs.Views.{phase_code}
use Rattle.text_wave.proofs.BitByBit.Short.{flag_after, after_short, other_code}
use Rattle.text_wave.proofs.meter.Meter.gauges_after.Goals as goal

pub returns-in-Flag : goal.returns-in-Flag
returns-in-Flag c = λ old before p.
    let q = c.args.bit.now in
    let r = c.args.self.now.replay in
    let flag = c.rest_bit.result.flag in
    c.by.ensures
    ∙ after_short old r before q p flag
    (ap (phase_code q.phase) (flag_after old r before q p flag c.rest_bit.ensures.flag))

pub returns-in_default : goal.returns-in_default
returns-in_default c = λ old before p.
    let q = c.args.bit.now in
    c.requires
    ∙ after_short old c.args.self.now.replay before q p q.flag
    (other_code q.phase p.happened.after.flag q.flag c.in_default.not-Flag)
