-- A right level past the stuffed part, before the last one of the line.
use Rattle.std.proofs.Common.{◌≡◌, ◌≢◌, ◌+◌, ℕ, List, [], ◌∷◌, ◌++◌, replicate, refl, sym, ◌∙◌, arith, append_assoc}
use Rattle.std.proofs.lemmas.List.{same_from_push}
use Rattle.can_frame.specs.Frame.{FrameValue}
use Rattle.can_levels.specs.declared.level.Level.{Level}
use Rattle.can_levels.specs.declared.level.Level.TheVariants.{Dominant, Recessive}
use Rattle.can_levels.specs.declared.line_fault.LineFault.TheVariants.{Form}
use Rattle.can_bits.specs.declared.body_word.BodyWord.{BodyWord}
use Rattle.can_levels.specs.Line.{tail}
use Rattle.can_levels.specs.Streaming.{IsReadable, IsLineButFor, IsRightPast}
use Rattle.can_bits.specs.Inside.FrameParts.{IsPast}
use Rattle.can_levels.proofs.Readables.{breaks_not_readable}
use Rattle.can_bits.proofs.Reader.Past.{past_is_past, past_readable, past_form, past_recessive, past_but_for}
use Rattle.can_bits.proofs.DueLemmas.{past_count, sixth_part}
use Rattle.can_levels.proofs.LineEnds.{over_part}

-- a level that was taken there, and wasn't the last one, was right
pub right_past_by : {g : BodyWord} {came : ℕ} (n : ℕ) (l : List Level) (x : Level) → IsPast n g came l → n ≢ 9 →
    IsPast (n + 1) g (came + 1) (l ++ x ∷ []) → IsRightPast l x
right_past_by n l x h other next = record {
  past = past_is_past n l h;
  right = past_readable (n + 1) (l ++ x ∷ []) next;
  goes_on = λ over.
      let count =
      past_count (n + 1) (l ++ x ∷ []) over.1.line.part (tail over.1.ack) next over.1.line.is_part
      (over_part (l ++ x ∷ []) over) in
      other (omega (arith, count));
}

-- where eight levels have come, a right one brings the frame
pub frame_with : {g : BodyWord} {came : ℕ} (l : List Level) (x : Level) → IsPast 8 g came l →
    IsReadable (l ++ x ∷ []) → (f : FrameValue) × IsLineButFor 1 f (l ++ x ∷ [])
frame_with {came = came} l Dominant h right =
    absurd (breaks_not_readable l Dominant (Form came)
    (past_form 8 l Dominant h (omega arith) (λ one. omega (arith, one)) refl) right)
frame_with l Recessive h right =
    let next =
    past_recessive 8 l Recessive h (omega arith) (λ one. omega (arith, one)) refl
    (λ two. absurd (omega (arith, two))) in
    (next.frame, past_but_for 9 1 (l ++ Recessive ∷ []) next (omega arith) refl)

-- and one that brings it is the ninth
pub eight_before : (f : FrameValue) (l : List Level) (x : Level) (but : IsLineButFor 1 f (l ++ x ∷ [])) →
    l ≡ but.line.part ++ Recessive ∷ but.ack ∷ replicate 6 Recessive
eight_before f l x but =
    let eight : List Level = Recessive ∷ but.ack ∷ replicate 6 Recessive in
    (same_from_push l (but.line.part ++ eight) x Recessive
    (sixth_part f (l ++ x ∷ []) but ∙ sym (append_assoc but.line.part eight (Recessive ∷ [])))).0
