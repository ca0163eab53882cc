use Rattle.std.proofs.Common.{sym, subst}
use Rattle.can_levels.specs.declared.frame_place.FramePlace.{FramePlace}
use Rattle.can_levels.specs.FramePlaces.{IsNextPlace}
use Rattle.can_bits.proofs.Reader.Past.{past_place}
use Rattle.can_bits.proofs.Reader.Places.{reads_inside, reads_past}
use Rattle.can_bits.proofs.shift.Shift.next_place.Goals as goal

pub returns-in-Stuffed : goal.returns-in-Stuffed
returns-in-Stuffed c l h right =
    c.place_inside.ensures l (reads_inside c.args.self.now l c.in-Stuffed.is h right)

pub returns-in-FixedForm : goal.returns-in-FixedForm
returns-in-FixedForm c l h right =
    subst (λ (p : FramePlace). IsNextPlace l p) (sym c.place_after.ensures)
    (past_place c.in-FixedForm.n l (reads_past c.args.self.now l c.in-FixedForm.n c.in-FixedForm.is h right))
