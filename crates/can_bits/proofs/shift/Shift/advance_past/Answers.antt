use Rattle.std.proofs.Common.{◌≡◌, ◌+◌, ◌++◌, ◌∷◌, [], List, false, Some, refl, sym, subst}
use Rattle.can_levels.specs.declared.level.Level.{Level}
use Rattle.can_levels.specs.declared.segment.Segment.{Segment}
use Rattle.can_bits.specs.declared.frame_part.FramePart.{FramePart}
use Rattle.can_bits.specs.declared.shift.Shift.{Shift}
use Rattle.can_levels.specs.declared.shift_fault.ShiftFault.{ShiftFault}
use Rattle.can_levels.specs.Segments.{IsNext}
use Rattle.can_bits.specs.Inside.FrameParts.{ReadsAt}
use Rattle.can_bits.specs.Shifts.{StandsFor}
use Rattle.can_levels.specs.Judgements.{JudgesAt}
use Rattle.can_bits.proofs.Reader.Past.{past_next, past_readable}
use Rattle.can_bits.proofs.Reader.Told.{wrong_event, broke_here}
use Rattle.can_bits.proofs.shift.Shift.advance_past.Goals as goal

-- the segment of the level
place : {l : List Level} {segment other : Segment} → segment ≡ other → IsNext l other false → IsNext l segment false
place {l = l} e h = subst (λ (s : Segment). IsNext l s false) (sym e) h

pub returns-in-Some-clause-stands : goal.returns-in-Some-clause-stands
returns-in-Some-clause-stands c l h =
    let w : ShiftFault = record { segment = c.segment_after.result; stuff = false; fault = c.in-Some.fault } in
    let s : Shift = record c.args.self.now { wrong = Some w } in
    let P : Shift → Type 0 = λ t. StandsFor t (l ++ c.args.level ∷ []) in
    let R : FramePart → Type 0 = λ e. ReadsAt e s l in
    let event =
    wrong_event l c.args.level w (place c.segment_after.ensures (past_next c.args.n l h))
    (c.in-Some.ensures.broken l h) in
    subst P (sym c.keep_fault.ensures.kept) (broke_here s l c.args.level w (subst R (sym c.requires.past) h) event)

pub returns-in-Some-clause-judged : goal.returns-in-Some-clause-judged
returns-in-Some-clause-judged c l h =
    let P : ShiftFault → Type 0 = λ w. JudgesAt l c.args.level (Some w) in
    subst P (sym c.keep_fault.ensures.fault)
    (place c.segment_after.ensures (past_next c.args.n l h), c.in-Some.ensures.broken l h)

pub returns-in-None-clause-stands : goal.returns-in-None-clause-stands
returns-in-None-clause-stands c l h =
    c.count_past.ensures (l ++ c.args.level ∷ []) (c.in-None.ensures.goes_on l h refl)

pub returns-in-None-clause-judged : goal.returns-in-None-clause-judged
returns-in-None-clause-judged c l h =
    past_readable (c.args.n + 1) (l ++ c.args.level ∷ []) (c.in-None.ensures.goes_on l h refl)
