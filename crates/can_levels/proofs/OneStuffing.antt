-- A list has one stuffing, and a frame one sent line.
use Rattle.std.proofs.Common.{◌≡◌, ◌<◌, ◌≤◌, inl, inr, if◌then◌else◌, nat_le, suc}
use Rattle.std.proofs.Common.{List, [], ◌∷◌, ◌++◌, reverse, refl, ap, sym, subst, ◌∙◌, arith}
use Rattle.std.proofs.lemmas.Bool.{cases_lt, le-leb, lt-leb}
use Rattle.std.proofs.lemmas.List.{reverse-reverse}
use Rattle.can_frame.specs.Frame.{FrameValue}
use Rattle.can_levels.specs.declared.level.Level.{Level}
use Rattle.can_levels.specs.declared.level.Level.TheVariants.{Recessive}
use Rattle.can_levels.specs.Digits.{opposite}
use Rattle.can_levels.specs.Body.{sent_body}
use Rattle.can_levels.specs.Stuffing.{Stuffed}
use Rattle.can_levels.specs.Line.{tail, IsSentLine}
use Rattle.can_levels.proofs.Runs.{run, run-same, run-other, IsShort}
use Rattle.can_levels.proofs.Stuffs.{unstuffed, unstuffed-kept, unstuffed-dropped, stuffed_to}
use Rattle.can_levels.proofs.Stuffs.{opposite-other, other-opposite}
use Rattle.can_levels.proofs.Checks.{Crc-unique}

-- a stuff bit after these levels, where one is due
close : List Level → List Level
close [] = []
close (x ∷ past) = if nat_le 5 (run (x ∷ past)) then opposite x ∷ x ∷ past else x ∷ past

-- none is due
close-few : (past : List Level) → run past < 5 → close past ≡ past
unfolding close
close-few [] few = refl
close-few (x ∷ past) few = rw (lt-leb 5 (run (x ∷ past)) few) refl

-- one is due
close-many : (x : Level) (past : List Level) → 5 ≤ run (x ∷ past) → close (x ∷ past) ≡ opposite x ∷ x ∷ past
unfolding close
close-many x past many = rw (le-leb 5 (run (x ∷ past)) many) refl

-- these levels with their stuff bits, newest first, one that is due after the last level too
stuffing : List Level → List Level
stuffing [] = []
stuffing (x ∷ rest) = close (x ∷ stuffing rest)

-- after five equal levels, where no six are equal, the opposite one stands
stuff_level : (x y : Level) (past : List Level) → run (x ∷ y ∷ past) ≤ 5 → 5 ≤ run (y ∷ past) → x ≡ opposite y
stuff_level x y past short many =
    other-opposite x y (λ same.
    let six : run (x ∷ y ∷ past) ≡ suc (run (y ∷ past)) = ap (λ z. run (z ∷ y ∷ past)) same ∙ run-same y past in
    omega arith)

-- levels are their own kept ones with the stuff bits put back, but for one that is due at the end
stuffed_again : (past : List Level) → IsShort past → stuffing (unstuffed past) ≡ close past
unfolding stuffing close
stuffed_again [] short = refl
stuffed_again (x ∷ []) short = refl
stuffed_again (x ∷ y ∷ past) short =
    let before = stuffed_again (y ∷ past) short.1 in
    elim (cases_lt (run (y ∷ past)) 5) [
      | inl few ↦ ap stuffing (unstuffed-kept x (y ∷ past) few)
          ∙ ap (λ l. close (x ∷ l)) (before ∙ close-few (y ∷ past) few)
      | inr many ↦
          let level = stuff_level x y past short.0 many in
          let one : run (x ∷ y ∷ past) ≡ 1 =
          ap (λ z. run (z ∷ y ∷ past)) level ∙ run-other (opposite y) y past (opposite-other y) in
          ap stuffing (unstuffed-dropped x (y ∷ past) many) ∙ before ∙ close-many y past many
          ∙ ap (λ z. z ∷ y ∷ past) (sym level) ∙ sym (close-few (x ∷ y ∷ past) (omega (arith, one)))
    ]

-- a list has one stuffing
pub stuffing-unique : (w s t : List Level) → Stuffed w s → Stuffed w t → s ≡ t
stuffing-unique w s t hs ht =
    let a = stuffed_to w s hs in
    let b = stuffed_to w t ht in
    let one = sym (close-few (reverse s) a.closed) ∙ sym (stuffed_again (reverse s) a.short) ∙ ap stuffing a.unstuffs in
    let other =
    sym (close-few (reverse t) b.closed) ∙ sym (stuffed_again (reverse t) b.short) ∙ ap stuffing b.unstuffs in
    sym (reverse-reverse s) ∙ ap reverse (one ∙ sym other) ∙ reverse-reverse t

-- a frame has one sent line
pub sent_line_once : (f : FrameValue) (l m : List Level) → IsSentLine f l → IsSentLine f m → l ≡ m
sent_line_once f l m (c, right, line) (d, good, other) =
    let same : c ≡ d = Crc-unique (sent_body f) c d right good in
    let P : List Level → Type 0 = λ e. Stuffed (sent_body f ++ e) other.part in
    let parts : line.part ≡ other.part =
    stuffing-unique (sent_body f ++ c) line.part other.part line.is_part.stuffed
    (subst P (sym same) other.is_part.stuffed) in
    line.whole ∙ ap (λ p. p ++ tail Recessive) parts ∙ sym other.whole
