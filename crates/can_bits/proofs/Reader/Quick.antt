-- A right level of the stuffed part, past SOF.
use Rattle.std.proofs.Common.{◌≡◌, ◌≢◌, ◌⊎◌, inl, inr, Option, None, Some, List}
use Rattle.std.proofs.Common.{[], ◌∷◌, ◌++◌, length, refl, ap, sym, subst, ◌∙◌, arith}
use Rattle.can_frame.specs.Frame.{FrameValue}
use Rattle.can_levels.specs.declared.level.Level.{Level}
use Rattle.can_levels.specs.declared.level.Level.TheVariants.{Recessive}
use Rattle.can_levels.specs.declared.line_fault.LineFault.TheVariants.{Stuff}
use Rattle.can_bits.specs.declared.frame_part.FramePart.{FramePart}
use Rattle.can_bits.specs.declared.frame_part.FramePart.TheVariants.{Stuffed, FixedForm}
use Rattle.can_bits.specs.declared.shift.Shift.{Shift}
use Rattle.can_levels.specs.declared.shift_fault.ShiftFault.{ShiftFault}
use Rattle.can_levels.specs.Line.{StuffedPart, tail}
use Rattle.can_levels.specs.Streaming.{IsReadable, IsRightInside, IsOver, ShowsFrame}
use Rattle.can_levels.specs.Acknowledging.{IsAckDue}
use Rattle.can_bits.specs.Inside.FrameParts.{ReadsAt}
use Rattle.can_bits.specs.Shifts.{StandsBy, StandsFor}
use Rattle.can_levels.proofs.Readables.{readable_front, breaks_not_readable}
use Rattle.can_levels.proofs.Reader.Inside.{not_past, wrong_sixth}
use Rattle.can_bits.proofs.Reader.Told.{reads_readable, hides_early}
use Rattle.can_bits.proofs.DueLemmas.{broke_not_readable, inside_now, inside_no_part, past_count}
use Rattle.can_levels.proofs.LineEnds.{over_part}

-- a reader with a fault isn't there
pub right_no_fault : (s : Shift) (l : List Level) (x : Level) (w : ShiftFault) → s.wrong ≡ Some w → StandsFor s l →
    IsReadable (l ++ x ∷ []) → ⊥
right_no_fault s l x w is h right =
    broke_not_readable s l w (subst (λ (o : Option ShiftFault). StandsBy o s l) is h)
    (readable_front l (x ∷ []) right)

-- and a sixth equal level isn't right
pub right_differs : (s : Shift) (l : List Level) (x : Level) → s.wrong ≡ None → s.frame_part ≡ Stuffed →
    StandsFor s l → s.run ≡ 5 → x ≡ s.last → IsRightInside l x → ⊥
right_differs s l x none at h five same right =
    let inside = inside_now s l none at h in
    breaks_not_readable l x (Stuff (length l)) (wrong_sixth x (length l) inside.part refl five same) right.right

-- where the reader is past SOF in the stuffed part, a level that it took there was right
pub right_by : (s : Shift) (l : List Level) (x : Level) → s.wrong ≡ None → s.frame_part ≡ Stuffed → s.count ≢ 0 →
    StandsFor s l → IsReadable (l ++ x ∷ []) → IsRightInside l x
right_by s l x none at some h right =
    let inside = inside_now s l none at h in
    record {
      inside = record { begun = λ empty. some (inside.count ∙ ap length empty); before_end = not_past inside.part };
      right = right;
    }

-- up to the last level of the stuffed part nothing has come after it
early_none : {f : FrameValue} {b c : List Level} (frame_part : FramePart) (s : Shift) (l part after : List Level) →
    (frame_part ≡ Stuffed) ⊎ (frame_part ≡ FixedForm 0) → ReadsAt frame_part s l →
    StuffedPart f b c part → l ≡ part ++ after → length after ≡ 0
early_none frame_part s l part after (inl inside) h k whole =
    absurd (inside_no_part l part after (subst (λ (e : FramePart). ReadsAt e s l) inside h) k whole)
early_none frame_part s l part after (inr ended) h k whole =
    sym (past_count 0 l part after (subst (λ (e : FramePart). ReadsAt e s l) ended h) k whole)

-- and there is nothing to tell
pub early_tells : (frame_part : FramePart) (s : Shift) (l : List Level) →
    (frame_part ≡ Stuffed) ⊎ (frame_part ≡ FixedForm 0) → ReadsAt frame_part s l →
    IsReadable l × ShowsFrame l None × (¬ IsOver l) × ¬ IsAckDue l
early_tells frame_part s l early h = (
  reads_readable frame_part s l h,
  hides_early frame_part s l early h,
  λ over. let none =
      early_none frame_part s l over.1.line.part (tail over.1.ack) early h over.1.line.is_part (over_part l over) in
      omega (arith, none),
  λ due. let none = early_none frame_part s l due.part (Recessive ∷ []) early h due.is_part due.whole in
      omega (arith, none),
)
