use Rattle.std.proofs.Common.{false, sym, subst}
use Rattle.can_levels.specs.declared.segment.Segment.{Segment}
use Rattle.can_bits.specs.declared.frame_part.FramePart.{FramePart}
use Rattle.can_levels.specs.Segments.{IsNext}
use Rattle.can_bits.specs.Inside.FrameParts.{stuff_at}
use Rattle.can_bits.proofs.Reader.Past.{past_next}
use Rattle.can_bits.proofs.Reader.Places.{reads_inside, reads_past}
use Rattle.can_bits.proofs.shift.Shift.segment_here.Goals as goal

pub returns-in-Stuffed : goal.returns-in-Stuffed
returns-in-Stuffed c l h right =
    let s = c.args.self.now in
    let P : FramePart → Type 0 = λ e. IsNext l c.segment_inside.result (stuff_at e s.run) in
    subst P (sym c.in-Stuffed.is) (c.segment_inside.ensures l (reads_inside s l c.in-Stuffed.is h right))

pub returns-in-FixedForm : goal.returns-in-FixedForm
returns-in-FixedForm c l h right =
    let s = c.args.self.now in
    let P : FramePart → Type 0 = λ e. IsNext l c.segment_after.result (stuff_at e s.run) in
    let Q : Segment → Type 0 = λ (t : Segment). IsNext l t false in
    subst P (sym c.in-FixedForm.is)
    (subst Q (sym c.segment_after.ensures)
    (past_next c.in-FixedForm.n l (reads_past s l c.in-FixedForm.n c.in-FixedForm.is h right)))
