-- The next level of a line has one segment.
use Rattle.std.proofs.Common.{◌≡◌, ◌-◌, Bool, List, ◌++◌, length, refl, ap, sym, ◌∙◌}
use Rattle.can_frame.specs.Frame.{FrameValue}
use Rattle.can_levels.specs.declared.level.Level.{Level}
use Rattle.can_levels.specs.declared.segment.Segment.{Segment}
use Rattle.can_levels.specs.Line.{StuffedPart}
use Rattle.can_levels.specs.Reading.{IsPastPart}
use Rattle.can_levels.specs.Segments.{IsNext, segment_at, segment_after}
use Rattle.can_levels.specs.Segments.IsNext.{bit, stuff_bit, after_part}
use Rattle.lemmas.proofs.Lists.{append-cancel}
use Rattle.can_levels.proofs.Stuffs.{IsUnstuffed-unique}
use Rattle.can_levels.proofs.Ending.{same_part}

-- these levels hold a whole stuffed part
pub past_here : {f : FrameValue} {b c l : List Level} (part after : List Level) → StuffedPart f b c part →
    l ≡ part ++ after → IsPastPart l
past_here {f = f} {b = b} {c = c} part after h e =
    record { frame = f; body = b; check = c; part = part; rest = after; is_part = h; whole = e }

-- what follows the stuffed part of some levels is one list
pub after_once : {f g : FrameValue} {b c d e : List Level} (l s t x y : List Level) →
    StuffedPart f b c s → StuffedPart g d e t → l ≡ s ++ x → l ≡ t ++ y → x ≡ y
after_once l s t x y h k split other =
    let whole : s ++ x ≡ t ++ y = sym split ∙ other in
    append-cancel s x y (whole ∙ ap (λ p. p ++ y) (sym (same_part x y h k whole)))

-- the next level has one segment, and is a stuff bit or none
pub IsNext-unique : (l : List Level) (s t : Segment) (u v : Bool) → IsNext l s u → IsNext l t v → (s ≡ t) × (u ≡ v)
IsNext-unique l s t u v (bit w h few inside) (bit x k less within) =
    (ap (λ z. segment_at z (length z)) (IsUnstuffed-unique w x l h k), refl)
IsNext-unique l s t u v (bit w h few inside) (stuff_bit x k five within) = absurd (few five)
IsNext-unique l s t u v (bit w h few inside) (after_part part after k e) = absurd (inside (past_here part after k e))
IsNext-unique l s t u v (stuff_bit w h five inside) (bit x k less within) = absurd (less five)
IsNext-unique l s t u v (stuff_bit w h five inside) (stuff_bit x k full within) =
    (ap (λ z. segment_at z (length z - 1)) (IsUnstuffed-unique w x l h k), refl)
IsNext-unique l s t u v (stuff_bit w h five inside) (after_part part after k e) =
    absurd (inside (past_here part after k e))
IsNext-unique l s t u v (after_part part after h e) (bit x k less within) = absurd (within (past_here part after h e))
IsNext-unique l s t u v (after_part part after h e) (stuff_bit x k full within) =
    absurd (within (past_here part after h e))
IsNext-unique l s t u v (after_part part after h e) (after_part other later k d) =
    (ap (λ z. segment_after (length z)) (after_once l part other after later h k e d), refl)
