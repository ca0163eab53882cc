use Rattle.std.proofs.Common.{◌++◌, ◌∷◌, [], Bool, Option, sym, subst}
use Rattle.can_levels.specs.declared.shift_event.ShiftEvent.{ShiftEvent}
use Rattle.can_levels.specs.declared.shift_fault.ShiftFault.{ShiftFault}
use Rattle.can_levels.specs.Streaming.{Tells}
use Rattle.can_levels.specs.Segments.{IsNext}
use Rattle.can_bits.specs.Shifts.{StandsBy}
use Rattle.can_levels.specs.Judgements.{JudgesAt, fault_event}
use Rattle.can_bits.proofs.Reader.Told.{reads_readable, wrong_event, tells_right, tells_again}
use Rattle.can_bits.proofs.shift.Shift.step.Goals as goal

pub returns-in-Some-clause-told : goal.returns-in-Some-clause-told
returns-in-Some-clause-told c l h =
    let s = c.args.self.now in
    let P : Option ShiftFault → Type 0 = λ o. StandsBy o s l in
    let Q : ShiftEvent → Type 0 = λ e. Tells l c.args.level e in
    subst Q (sym c.event.ensures) (tells_again s l c.args.level c.in-Some.wrong (subst P c.in-Some.is h))

pub returns-in-Some-advance-clause-told : goal.returns-in-Some-advance-clause-told
returns-in-Some-advance-clause-told c l h =
    let s = c.args.self.now in
    let P : Option ShiftFault → Type 0 = λ o. StandsBy o s l in
    let right = reads_readable s.frame_part s l (subst P c.in-None.is h) in
    let J : Option ShiftFault → Type 0 = λ o. JudgesAt l c.args.level o in
    let broke = subst J c.in-Some-advance.is (c.advance.ensures.judged l h right) in
    let Q : ShiftEvent → Type 0 = λ e. Tells l c.args.level e in
    subst Q (sym c.event-in-Some-advance.ensures)
    (tells_right l c.args.level (fault_event c.in-Some-advance.wrong) right
    (wrong_event l c.args.level c.in-Some-advance.wrong broke.0 broke.1))

pub returns-in-None-advance-clause-told : goal.returns-in-None-advance-clause-told
returns-in-None-advance-clause-told c l h =
    let s = c.args.self.now in
    let P : Option ShiftFault → Type 0 = λ o. StandsBy o s l in
    let right = reads_readable s.frame_part s l (subst P c.in-None.is h) in
    let J : Option ShiftFault → Type 0 = λ o. JudgesAt l c.args.level o in
    let on = subst J c.in-None-advance.is (c.advance.ensures.judged l h right) in
    let N : Bool → Type 0 = λ b. IsNext l c.segment_here-segment.result b in
    tells_right l c.args.level _ right (record {
      place = subst N (sym c.is_stuff-stuff.ensures) (c.segment_here-segment.ensures l h right);
      frame = c.frame.ensures (l ++ c.args.level ∷ []) (c.advance.ensures.stands l h) on;
      fault = on;
    })
