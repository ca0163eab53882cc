-- A reader past the stuffed part.
use Rattle.std.proofs.Common.{◌≡◌, ◌≢◌, ◌+◌, ◌<◌, ◌≤◌, inl, inr, ℕ, zero, suc, false, Some, None, List, [], ◌∷◌}
use Rattle.std.proofs.Common.{◌++◌, length, take, drop, get_or, refl, ap, sym, subst, ◌∙◌, arith, append_assoc}
use Rattle.std.proofs.lemmas.Bool.{cases_eq}
use Rattle.std.proofs.lemmas.List.{append-nil, length-append, length-drop, length-take-le, get_or_push}
use Rattle.std.proofs.lemmas.List.{length_push, take_more, take-append-drop, get_or_append_left}
use Rattle.can_frame.specs.Frame.{FrameValue}
use Rattle.can_levels.specs.declared.level.Level.{Level}
use Rattle.can_levels.specs.declared.level.Level.TheVariants.{Dominant, Recessive}
use Rattle.can_bits.specs.declared.body_word.BodyWord.{BodyWord}
use Rattle.can_levels.specs.declared.line_fault.LineFault.TheVariants.{Form, Crc as CheckFault, Trailing}
use Rattle.can_levels.specs.Check.{Crc}
use Rattle.can_levels.specs.Line.{Line, tail}
use Rattle.can_levels.specs.Reading.{IsPastPart}
use Rattle.can_levels.specs.Segments.{IsNext, segment_after}
use Rattle.can_levels.specs.Segments.IsNext.{after_part}
use Rattle.can_levels.specs.FramePlaces.{IsNextPlace, place_after}
use Rattle.can_levels.specs.FramePlaces.IsNextPlace.{after_part as after_place}
use Rattle.can_levels.specs.Streaming.{IsReadable, IsLineButFor, BreaksWith, ShowsFrame, ShowsFrameBut}
use Rattle.can_bits.specs.Inside.FrameParts.{IsPast}
use Rattle.can_levels.proofs.Ending.{line_at}
use Rattle.can_levels.proofs.LineEnds.{missing}

-- the segment of the next level
pub past_next : {g : BodyWord} {count : ℕ} (n : ℕ) (l : List Level) → IsPast n g count l →
    IsNext l (segment_after n) false
past_next n l h =
    let many : length (take n (tail h.ack)) ≡ n = length-take-le n (tail h.ack) h.within in
    subst (λ (k : ℕ). IsNext l (segment_after k) false) many (after_part h.part (take n (tail h.ack)) h.is_part h.whole)

-- its place
pub past_place : {g : BodyWord} {count : ℕ} (n : ℕ) (l : List Level) → IsPast n g count l →
    IsNextPlace l (place_after n)
past_place n l h =
    let many : length (take n (tail h.ack)) ≡ n = length-take-le n (tail h.ack) h.within in
    subst (λ (k : ℕ). IsNextPlace l (place_after k)) many
    (after_place h.part (take n (tail h.ack)) h.is_part h.whole)

-- the line goes on
past_line : {g : BodyWord} {count : ℕ} (n : ℕ) (l : List Level) (h : IsPast n g count l) →
    Line h.frame h.body h.check h.ack (l ++ drop n (tail h.ack))
past_line n l h = record {
  part = h.part;
  is_part = h.is_part;
  whole = ap (λ m. m ++ drop n (tail h.ack)) h.whole ∙ append_assoc h.part (take n (tail h.ack)) (drop n (tail h.ack))
      ∙ ap (λ t. h.part ++ t) (take-append-drop n (tail h.ack));
}

pub past_readable : {g : BodyWord} {count : ℕ} (n : ℕ) (l : List Level) → IsPast n g count l → IsReadable l
past_readable n l h = record {
  begun = record {
    frame = h.frame;
    body = h.body;
    check = h.check;
    ack = h.ack;
    rest = drop n (tail h.ack);
    line = past_line n l h;
  };
  right = λ few. let within = h.within in h.right (omega (arith, few, length-drop n (tail h.ack)));
}

-- all levels of a tail but that in the ACK slot are recessive
tail_next : (n : ℕ) (ack : Level) → n < 10 → n ≢ 1 → get_or (tail ack) n Dominant ≡ Recessive
tail_next zero ack h other = refl
tail_next (suc zero) ack h other = absurd (other refl)
tail_next (suc (suc zero)) ack h other = refl
tail_next (suc (suc (suc zero))) ack h other = refl
tail_next (suc (suc (suc (suc zero)))) ack h other = refl
tail_next (suc (suc (suc (suc (suc zero))))) ack h other = refl
tail_next (suc (suc (suc (suc (suc (suc zero)))))) ack h other = refl
tail_next (suc (suc (suc (suc (suc (suc (suc zero))))))) ack h other = refl
tail_next (suc (suc (suc (suc (suc (suc (suc (suc zero)))))))) ack h other = refl
tail_next (suc (suc (suc (suc (suc (suc (suc (suc (suc zero))))))))) ack h other = refl
tail_next (suc (suc (suc (suc (suc (suc (suc (suc (suc (suc n)))))))))) ack h other = absurd (omega arith)

-- a level more of the tail
past_more : {g : BodyWord} {count : ℕ} (n : ℕ) (l : List Level) (x ack : Level) (h : IsPast n g count l) → n < 10 →
    take (n + 1) (tail ack) ≡ take n (tail h.ack) ++ x ∷ [] → (3 ≤ n + 1 → Crc h.body h.check) →
    IsPast (n + 1) g (count + 1) (l ++ x ∷ [])
past_more n l x ack h few next right =
    let old = h.count in
    record {
      frame = h.frame;
      body = h.body;
      check = h.check;
      part = h.part;
      ack = ack;
      is_part = h.is_part;
      whole = ap (λ m. m ++ x ∷ []) h.whole ∙ append_assoc h.part (take n (tail h.ack)) (x ∷ [])
          ∙ ap (λ t. h.part ++ t) (sym next);
      within = omega (arith, few);
      right = right;
      gathers = h.gathers;
      count = omega (arith, old, length_push l x);
    }

-- a recessive one
pub past_recessive : {g : BodyWord} {count : ℕ} (n : ℕ) (l : List Level) (x : Level) (h : IsPast n g count l) →
    n < 10 → n ≢ 1 → x ≡ Recessive →
    (n ≡ 2 → Crc h.body h.check) → IsPast (n + 1) g (count + 1) (l ++ x ∷ [])
past_recessive n l x h few other recessive right =
    past_more n l x h.ack h few
    (take_more (tail h.ack) n Dominant few
    ∙ ap (λ y. take n (tail h.ack) ++ y ∷ []) (tail_next n h.ack few other ∙ sym recessive))
    (λ three. elim (cases_eq n 2) [ inl two ↦ right two | inr many ↦ h.right (omega (arith, many, three)) ])

-- either level in the ACK slot
pub past_slot : {g : BodyWord} {count : ℕ} (l : List Level) (x : Level) → IsPast 1 g count l →
    IsPast 2 g (count + 1) (l ++ x ∷ [])
past_slot l x h = past_more 1 l x x h (omega arith) refl (λ three. absurd (omega (arith, three)))

-- the part has come
abbrev pub past_is_past : {g : BodyWord} {count : ℕ} (n : ℕ) (l : List Level) → IsPast n g count l → IsPastPart l
past_is_past n l h =
    record {
      frame = h.frame;
      body = h.body;
      check = h.check;
      part = h.part;
      rest = take n (tail h.ack);
      is_part = h.is_part;
      whole = h.whole;
    }

-- and with more levels
abbrev pub past_with : {g : BodyWord} {count : ℕ} (n : ℕ) (l later : List Level) → IsPast n g count l →
    IsPastPart (l ++ later)
past_with n l later h = record {
  frame = h.frame;
  body = h.body;
  check = h.check;
  part = h.part;
  rest = take n (tail h.ack) ++ later;
  is_part = h.is_part;
  whole = ap (λ m. m ++ later) h.whole ∙ append_assoc h.part (take n (tail h.ack)) later;
}

-- how many levels are missing
past_missing : {g : BodyWord} {count : ℕ} {f : FrameValue} {b c : List Level} {ack : Level} (n : ℕ)
    (l more rest : List Level) → IsPast n g count l →
    Line f b c ack ((l ++ more) ++ rest) → n + length more + length rest ≡ 10
past_missing {f = f} {b = b} {c = c} {ack = ack} n l more rest h line =
    let P : List Level → Type 0 = λ m. Line f b c ack (m ++ rest) in
    let whole : l ++ more ≡ h.part ++ (take n (tail h.ack) ++ more) =
    ap (λ m. m ++ more) h.whole ∙ append_assoc h.part (take n (tail h.ack)) more in
    let count = missing h.part (take n (tail h.ack) ++ more) rest h.is_part (subst P whole line) in
    omega (arith, count, length-append (take n (tail h.ack)) more, length-take-le n (tail h.ack) h.within)

-- a dominant level
pub past_form : {g : BodyWord} {count : ℕ} (n : ℕ) (l : List Level) (x : Level) → IsPast n g count l → n < 10 → n ≢ 1 →
    x ≡ Dominant → BreaksWith l x (Form count)
past_form n l x h few other dominant = (
  (λ begun.
      let t = take n (tail h.ack) in
      let P : List Level → Type 0 = λ m. Line begun.frame begun.body begun.check begun.ack (m ++ begun.rest) in
      let whole : l ++ x ∷ [] ≡ h.part ++ (t ++ x ∷ []) =
      ap (λ m. m ++ x ∷ []) h.whole ∙ append_assoc h.part t (x ∷ []) in
      let on = line_at h.part (t ++ x ∷ []) begun.rest h.is_part (subst P whole begun.line) in
      let many : length t ≡ n = length-take-le n (tail h.ack) h.within in
      let here : get_or ((t ++ x ∷ []) ++ begun.rest) n Dominant ≡ x =
      get_or_append_left (t ++ x ∷ []) begun.rest Dominant n (omega (arith, many, length_push t x))
      ∙ get_or_push t x Dominant n many in
      let there : get_or (tail begun.ack) n Dominant ≡ Recessive = tail_next n begun.ack few other in
      let both : Recessive ≡ Dominant = sym there ∙ ap (λ m. get_or m n Dominant) on.tails ∙ here ∙ dominant in
      cc),
  (λ inside. inside.before_end (past_is_past n l h)),
  (λ over.
      let but = over.1 in
      let none = but.count in
      let P : List Level → Type 0 = λ m. Line over.0 but.body but.check but.ack (m ++ but.rest) in
      let count = past_missing n l [] but.rest h (subst P (sym (append-nil l)) but.line) in
      omega (arith, count, none)),
  h.count,
)

-- a wrong CRC sequence
pub past_wrong : {g : BodyWord} {count : ℕ} (l : List Level) (x : Level) (h : IsPast 2 g count l) →
    (Crc h.body h.check → ⊥) → x ≡ Recessive → BreaksWith l x CheckFault
past_wrong l x h wrong recessive =
    (record { past = past_is_past 2 l h; ack = h.ack; slot = refl; wrong = wrong }, recessive)

-- the line but for its last levels
pub past_but_for : {g : BodyWord} {count : ℕ} (n m : ℕ) (l : List Level) (h : IsPast n g count l) → 3 ≤ n →
    n + m ≡ 10 → IsLineButFor m h.frame l
past_but_for n m l h three total = record {
  body = h.body;
  check = h.check;
  ack = h.ack;
  rest = drop n (tail h.ack);
  line = past_line n l h;
  right = h.right three;
  count = omega (arith, total, length-drop n (tail h.ack));
}

-- a level after the whole line
pub past_trailing : {g : BodyWord} {count : ℕ} (n : ℕ) (l : List Level) (x : Level) → IsPast n g count l → 10 ≤ n →
    BreaksWith l x (Trailing count)
past_trailing n l x h many = let within = h.within in
    ((h.frame, past_but_for n 0 l h (omega (arith, many)) (omega (arith, many, within))), h.count)

-- no frame comes with another level than the sixth bit of EOF
pub past_hides : {g : BodyWord} {count : ℕ} (n : ℕ) (l : List Level) → IsPast n g count l → n ≢ 9 → ShowsFrame l None
past_hides n l h other = record {
  some = tt;
  only = λ f but.
      let one = but.count in
      let P : List Level → Type 0 = λ m. Line f but.body but.check but.ack (m ++ but.rest) in
      let count = past_missing n l [] but.rest h (subst P (sym (append-nil l)) but.line) in
      absurd (other (omega (arith, count, one)));
}

-- with that bit it comes, and it can be told to the end
pub past_shows : {g : BodyWord} {count : ℕ} (n m : ℕ) (l : List Level) (h : IsPast n g count l) → 3 ≤ n → n + m ≡ 10 →
    ShowsFrameBut m l (Some h.frame)
past_shows n m l h three total = record {
  some = past_but_for n m l h three total;
  only = λ f but.
      let P : List Level → Type 0 = λ k. Line f but.body but.check but.ack (k ++ but.rest) in
      let on = line_at h.part (take n (tail h.ack)) but.rest h.is_part (subst P h.whole but.line) in
      ap Some on.frame;
}
