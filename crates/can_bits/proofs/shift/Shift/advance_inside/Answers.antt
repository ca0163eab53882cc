use Rattle.std.proofs.Common.{◌++◌, ◌∷◌, [], nat_eq, Some, refl, sym, subst}
use Rattle.can_bits.specs.declared.frame_part.FramePart.{FramePart}
use Rattle.can_bits.specs.declared.shift.Shift.{Shift}
use Rattle.can_levels.specs.declared.shift_fault.ShiftFault.{ShiftFault}
use Rattle.can_bits.specs.Inside.FrameParts.{ReadsAt}
use Rattle.can_bits.specs.Shifts.{StandsFor}
use Rattle.can_levels.specs.Judgements.{JudgesAt}
use Rattle.can_bits.proofs.Reader.Told.{wrong_event, broke_here, reads_readable}
use Rattle.can_bits.proofs.shift.Shift.advance_inside.Goals as goal

pub returns-in-Some-clause-stands : goal.returns-in-Some-clause-stands
returns-in-Some-clause-stands c l h =
    let old = c.args.self.now in
    let place = c.segment_inside-segment.ensures l h in
    let w : ShiftFault =
    record { segment = c.segment_inside-segment.result; stuff = nat_eq old.run 5; fault = c.in-Some.fault } in
    let s : Shift = record old { wrong = Some w } in
    let P : Shift → Type 0 = λ t. StandsFor t (l ++ c.args.level ∷ []) in
    let R : FramePart → Type 0 = λ e. ReadsAt e s l in
    let event = wrong_event l c.args.level w place (c.in-Some.ensures.broken l h) in
    subst P (sym c.keep_fault.ensures.kept) (broke_here s l c.args.level w (subst R (sym c.requires.inside) h) event)

pub returns-in-Some-clause-judged : goal.returns-in-Some-clause-judged
returns-in-Some-clause-judged c l h =
    let place = c.segment_inside-segment.ensures l h in
    let P : ShiftFault → Type 0 = λ w. JudgesAt l c.args.level (Some w) in
    subst P (sym c.keep_fault.ensures.fault) (place, c.in-Some.ensures.broken l h)

pub returns-in-None-clause-judged : goal.returns-in-None-clause-judged
returns-in-None-clause-judged c l h =
    let new = c.take_right.new.self in
    let reads = c.take_right.ensures.stands l h (c.in-None.ensures.begins refl) (c.in-None.ensures.differs refl) in
    reads_readable new.frame_part new (l ++ c.args.level ∷ []) reads
