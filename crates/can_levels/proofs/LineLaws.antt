-- Laws of lines.
use Rattle.std.proofs.Common.{◌≡◌, ◌≢◌, ◌+◌, ◌-◌, ◌<◌, ◌≤◌, ◌⊎◌, inl, inr, ℕ, List, [], ◌∷◌, ◌++◌, length}
use Rattle.std.proofs.Common.{reverse, replicate, refl, ap, sym, subst, ◌∙◌, arith, append_assoc, set}
use Rattle.std.proofs.lemmas.Bool.{cases_lt}
use Rattle.std.proofs.lemmas.List.{append-nil, length-append, same_from_push, reverse-reverse, set_at}
use Rattle.can_frame.specs.Frame.{FrameValue}
use Rattle.can_levels.specs.declared.level.Level.{Level}
use Rattle.can_levels.specs.declared.level.Level.TheVariants.{Dominant, Recessive}
use Rattle.can_levels.specs.Body.{sent_body}
use Rattle.can_levels.specs.Spelling.{Spells}
use Rattle.can_levels.specs.Stuffing.{HasNoSixEqual}
use Rattle.can_levels.specs.Line.{Line, tail, IsSentLine}
use Rattle.can_levels.specs.Reading.{IsReceived, IsPastPart, IsOpen, BeginsDominant}
use Rattle.can_levels.specs.Fields.{says_count}
use Rattle.lemmas.proofs.Lists.{reverse-cons}
use Rattle.can_levels.proofs.Runs.{run, run_one_more, IsShort, short_from}
use Rattle.can_levels.proofs.Ending.{line_at}
use Rattle.can_levels.proofs.Going.{inside_open}
use Rattle.can_levels.proofs.Stuffs.{run-leads}
use Rattle.can_levels.proofs.Parts.{part_of}
use Rattle.can_levels.proofs.Whole.Decoding.{decoded}
use Rattle.can_levels.proofs.Whole.Steps.{Holds, IsBefore, Holds-nothing, IsBefore-nothing}
use Rattle.can_levels.proofs.Whole.Steps.{Holds-kept, Holds-dropped, run_same, before_here, inside_of}

-- the tail of a line without its last level
most_of_tail : Level → List Level
most_of_tail ack = Recessive ∷ ack ∷ Recessive ∷ replicate 6 Recessive

-- lines with the same levels up to the sixth bit of EOF are lines of one frame, with one body and CRC sequence, and as
-- long
pub lines_agree : (f g : FrameValue) (b c d e : List Level) (ack other x : Level) (front rest : List Level) →
    Line f b c ack (front ++ x ∷ []) → Line g d e other (front ++ rest) →
    (f ≡ g) × (b ≡ d) × (c ≡ e) × (length rest ≡ 1)
unfolding most_of_tail
lines_agree f g b c d e ack other x front rest h k =
    let split : front ++ x ∷ [] ≡ (h.part ++ most_of_tail ack) ++ Recessive ∷ [] =
    h.whole ∙ sym (append_assoc h.part (most_of_tail ack) (Recessive ∷ [])) in
    let same = same_from_push front (h.part ++ most_of_tail ack) x Recessive split in
    let P : List Level → Type 0 = λ l. Line g d e other (l ++ rest) in
    let on = line_at h.part (most_of_tail ack) rest h.is_part (subst P same.0 k) in
    let count = ap length on.tails in
    (on.frame, on.body, on.check, omega (arith, count))

-- a sent line, acknowledged, is received
pub sent_received : (f : FrameValue) (l : List Level) → IsSentLine f l → IsReceived f (set l (length l - 9) Dominant)
sent_received f l (c, right, line) =
    let place : length l - 9 ≡ length line.part + 1 =
    omega (arith, ap length line.whole, length-append line.part (tail Recessive)) in
    let split : l ≡ (line.part ++ Recessive ∷ []) ++ Recessive ∷ (Recessive ∷ replicate 7 Recessive) =
    line.whole ∙ sym (append_assoc line.part (Recessive ∷ []) (Recessive ∷ Recessive ∷ replicate 7 Recessive)) in
    let there : length (line.part ++ Recessive ∷ []) ≡ length l - 9 =
    length-append line.part (Recessive ∷ []) ∙ sym place in
    let answered : set l (length l - 9) Dominant ≡ line.part ++ tail Dominant =
    ap (λ (m : List Level). set m (length l - 9) Dominant) split
    ∙ set_at (line.part ++ Recessive ∷ []) Recessive (Recessive ∷ replicate 7 Recessive) Dominant (length l - 9) there
    ∙ append_assoc line.part (Recessive ∷ []) (Dominant ∷ Recessive ∷ replicate 7 Recessive) in
    record {
      body = sent_body f;
      check = c;
      right = right;
      line = record { part = line.part; is_part = line.is_part; whole = answered };
    }

-- what was read so far of levels without six equal ones: a stuffed part that goes on
record Going (past : List Level) : Type 0 where
  bits : List Level
  last : Level
  count : ℕ
  holds : Holds past bits last count
  before : IsBefore bits count

-- its end was reached
past_more : (past : List Level) (x : Level) → IsPastPart (reverse past) → IsPastPart (reverse (x ∷ past))
past_more past x h = record {
  frame = h.frame;
  body = h.body;
  check = h.check;
  part = h.part;
  rest = h.rest ++ x ∷ [];
  is_part = h.is_part;
  whole = reverse-cons x past ∙ ap (λ l. l ++ x ∷ []) h.whole ∙ append_assoc h.part h.rest (x ∷ []);
}

-- a whole part that has just ended
ended : (past w : List Level) (x : Level) (n : ℕ) → Holds past w x n → n < 5 → length w ≡ says_count w →
    IsPastPart (reverse past)
ended past w x n h few full =
    let (f, b, c, spells) = decoded w (record { begins = h.begins; count = full }) in
    let closed : run past < 5 = rw (run-leads x n past h.leads) few in
    let P : List Level → Type 0 = λ l. Spells f b c l in
    record {
      frame = f;
      body = b;
      check = c;
      part = reverse past;
      rest = [];
      is_part = part_of past h.short closed (subst P h.plain_is spells);
      whole = sym (append-nil (reverse past));
    }

-- after one level more the part goes on, or its end is reached
goes_or_ends : (past w : List Level) (x : Level) (n : ℕ) → Holds past w x n → Going past ⊎ IsPastPart (reverse past)
goes_or_ends past w x n h =
    let fits = h.fits in
    elim (cases_lt n 5) [
      | inl few ↦ elim (cases_lt (length w) (says_count w)) [
        | inl less ↦
            inl (record { bits = w; last = x; count = n; holds = h; before = before_here w n (λ _ full. omega arith) })
        | inr all ↦ inr (ended past w x n h few (omega arith))
      ]
      | inr many ↦
          inl (record { bits = w; last = x; count = n; holds = h; before = before_here w n (λ less _. omega arith) })
    ]

-- what begins dominant with one level more did before, or that level is dominant
begins_before : (l : List Level) (x : Level) → BeginsDominant (l ++ x ∷ []) → BeginsDominant l × (l ≡ [] → x ≡ Dominant)
begins_before [] Dominant h = (tt, λ _. refl)
begins_before [] Recessive h = absurd h
begins_before (Dominant ∷ l) x h = (tt, λ none. cc)
begins_before (Recessive ∷ l) x h = absurd h

-- after five equal levels another one comes
differs : (past w : List Level) (last x : Level) (n : ℕ) → Holds past w last n → 5 ≤ n → run (x ∷ past) ≤ 5 → x ≢ last
differs past w last x n h many few = λ like.
    let six : run (x ∷ past) ≡ n + 1 = ap (λ y. run (y ∷ past)) like ∙ run_same past w last n h in omega arith

-- one level more
one_more : (past : List Level) (x : Level) → Going past → run (x ∷ past) ≤ 5 → (past ≡ [] → x ≡ Dominant) →
    Going (x ∷ past) ⊎ IsPastPart (reverse (x ∷ past))
one_more past x g few first =
    let h = g.holds in
    let most = h.most in
    let counted = run-leads g.last g.count past h.leads in
    elim (cases_lt g.count 5) [
      | inl less ↦ goes_or_ends (x ∷ past) (g.bits ++ x ∷ []) x (run (x ∷ past))
          (Holds-kept past g.bits g.last x g.count (run (x ∷ past)) h g.before less refl
          (omega (arith, run_one_more x past)) first)
      | inr many ↦
          let P : ℕ → Type 0 = λ n. Holds past g.bits g.last n in
          let five : g.count ≡ 5 = omega arith in
          goes_or_ends (x ∷ past) g.bits x 1
          (Holds-dropped past g.bits g.last x (subst P five h) (differs past g.bits g.last x g.count h many few))
    ]

-- levels that begin dominant and have no six equal ones are a front of a stuffed part, or its end was reached
going : (past : List Level) → IsShort past → BeginsDominant (reverse past) → Going past ⊎ IsPastPart (reverse past)
going [] short begins =
    inl (record { bits = []; last = Dominant; count = 0; holds = Holds-nothing Dominant; before = IsBefore-nothing })
going (x ∷ past) short begins =
    let P : List Level → Type 0 = λ l. BeginsDominant l in
    let before = begins_before (reverse past) x (subst P (reverse-cons x past) begins) in
    elim (going past short.1 before.0) [
      | inl g ↦ one_more past x g short.0 (λ none. before.1 (ap reverse none))
      | inr p ↦ inr (past_more past x p)
    ]

-- whatever begins dominant, has no six equal levels and isn't past its stuffed part can go on to a line
pub can_go_on : (l : List Level) → BeginsDominant l → HasNoSixEqual l → (IsPastPart l → ⊥) → IsOpen l
can_go_on l begins no_six inside =
    let P : List Level → Type 0 = λ m. HasNoSixEqual m in
    let Q : List Level → Type 0 = λ m. BeginsDominant m in
    let R : List Level → Type 0 = λ m. IsPastPart m in
    let twice : reverse (reverse l) ≡ l = reverse-reverse l in
    elim (going (reverse l) (short_from (reverse l) (subst P (sym twice) no_six)) (subst Q (sym twice) begins)) [
      | inl g ↦ inside_open l (inside_of (reverse l) g.bits g.last g.count g.holds g.before)
      | inr p ↦ absurd (inside (subst R twice p))
    ]
