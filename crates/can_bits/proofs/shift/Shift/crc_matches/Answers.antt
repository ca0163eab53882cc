use Rattle.std.proofs.Common.{◌++◌, refl}
use Rattle.can_bits.proofs.Reader.Told.{check_inside, check_past}
use Rattle.can_bits.proofs.shift.Shift.crc_matches.Goals as goal

pub returns-in-Stuffed : goal.returns-in-Stuffed
returns-in-Stuffed c l h = check_inside c.args.self.now c.args.self.now.wrong l c.in-Stuffed.is h

pub returns-in-FixedForm : goal.returns-in-FixedForm
returns-in-FixedForm c l h =
    check_past c.args.self.now c.args.self.now.wrong l c.in-FixedForm.field-0 c.check_is_right.result c.in-FixedForm.is
    h
    (λ front p. c.check_is_right.ensures (p.body ++ p.check) p.body p.check p.gathers refl p.is_part.check)
