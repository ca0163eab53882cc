-- The next levels of a packed body, by digits that were taken from it at once, taken and written.
use Rattle.std.proofs.Common.{◌≡◌, ◌≢◌, ◌+◌, ◌-◌, ◌*◌, ◌/◌, ◌%◌, ◌^◌, ◌<◌, ◌≤◌, ◌==◌, ◌⊎◌, suc, inl, inr, ℕ}
use Rattle.std.proofs.Common.{Option, Some, List, [], ◌∷◌, ◌++◌, length, drop, set, slice_range}
use Rattle.std.proofs.Common.{refl, ap, sym, subst, ◌∙◌, arith}
use Rattle.std.proofs.lemmas.Bool.{cases_eq, eq-eqb, ne_eqb}
use Rattle.std.proofs.lemmas.List.{drop-set-lt, drop-drop}
use Rattle.can_levels.specs.declared.level.Level.{Level}
use Rattle.can_levels.specs.declared.level.Level.TheVariants.{Dominant, Recessive}
use Rattle.can_bits.specs.declared.frame_part.FramePart.TheVariants.{Stuffed}
use Rattle.can_bits.specs.declared.sent_body.SentBody.{SentBody}
use Rattle.can_bits.specs.declared.shift.Shift.{Shift}
use Rattle.can_bits.specs.Inside.Gathering.{Gathers}
use Rattle.can_levels.specs.Digits.{level_of, opposite}
use Rattle.can_bits.specs.Sending.{TakesInside, SendsAlong, next_at, or_crc, packed_level, place_of}
use Rattle.can_levels.proofs.Packing.Words.{digit_next}
use Rattle.can_bits.proofs.Reader.Along.{inside, takes_one, one_level, range_more}
use Rattle.can_bits.proofs.Reader.Take.{levels_equal}

-- the digits are those of the body from the next level on, up to a place
abbrev pub Shows : SentBody → ℕ → ℕ → ℕ → Type 0
Shows body place digits stop =
    (k : ℕ) → k < 64 → place + k < stop → place + k < body.length →
    packed_level body (place + k) ≡ Some (level_of (digits / 2 ^ (63 - k) % 2 == 1))

-- the next level, with what is gathered of it
pub record IsChosen (body : SentBody) (s n : Shift) (x : Level) (digits stop : ℕ) : Type 0 where
  pub kept : n ≡ record s { gathered = n.gathered }
  pub next : x ≡ next_at Stuffed s body
  pub differs : s.run ≡ 5 → x ≢ s.last
  pub bit : (w : List Level) → Gathers s.gathered w → length w < 118 → s.run ≢ 5 → Gathers n.gathered (w ++ x ∷ [])
  pub stuff_bit : s.run ≡ 5 → n.gathered ≡ s.gathered
  pub mark : n.gathered.mark ≡ s.gathered.mark
  pub goes_on : n.gathered.place ≢ n.gathered.mark
  pub later : place_of s ≤ place_of n
  pub near : place_of n ≤ suc (place_of s)
  pub shows : Shows body (place_of n) digits stop

-- a level isn't the other one
not_opposite : (x : Level) → opposite x ≢ x
not_opposite Dominant = λ h. cc
not_opposite Recessive = λ h. cc

-- a stuff bit
pub stuff_chosen : (body : SentBody) (s : Shift) (x : Level) (digits stop : ℕ) → s.run ≡ 5 → x ≡ opposite s.last →
    place_of s ≢ s.gathered.mark → Shows body (place_of s) digits stop →
    IsChosen body s s x digits stop
stuff_chosen body s x digits stop five unlike before shows = record {
  kept = refl;
  next = unlike ∙ (rw (eq-eqb s.run 5 five) refl);
  differs = λ _ same. not_opposite s.last (sym unlike ∙ same);
  bit = λ w g room less. absurd (less five);
  stuff_bit = λ _. refl;
  mark = refl;
  goes_on = before;
  later = omega arith;
  near = omega arith;
  shows = shows;
}

-- a level of the body
pub bit_chosen : (body : SentBody) (s n : Shift) (x : Level) (digits stop : ℕ) → s.run ≢ 5 →
    x ≡ level_of (digits / 2 ^ 63 == 1) → digits < 2 ^ 64 →
    place_of s < stop → stop ≤ place_of s + 64 → place_of s < body.length → n ≡ record s { gathered = n.gathered } →
    ((w : List Level) → Gathers s.gathered w → length w < 118 → Gathers n.gathered (w ++ x ∷ [])) →
    n.gathered.mark ≡ s.gathered.mark → place_of n ≡ place_of s + 1 → place_of s + 1 ≢ s.gathered.mark →
    Shows body (place_of s) digits stop → IsChosen body s n x (2 * (digits % 2 ^ 63)) stop
bit_chosen body s n x digits stop less level fits before near within kept bit mark place apart shows =
    let none : place_of s + 0 ≡ place_of s = omega arith in
    let one : digits / 2 ^ (63 - 0) % 2 ≡ digits / 2 ^ 63 = omega (arith, fits) in
    let first : packed_level body (place_of s) ≡ Some x =
    ap (λ k. packed_level body k) (sym none)
    ∙ shows 0 (omega arith) (omega (arith, before)) (omega (arith, within))
    ∙ ap (λ m. Some (level_of (m == 1))) one ∙ ap Some (sym level) in
    record {
      kept = kept;
      next = sym (rw (ne_eqb s.run 5 less) (ap (λ (o : Option Level). or_crc o s.gathered) first));
      differs = λ five. absurd (less five);
      bit = λ w g room _. bit w g room;
      stuff_bit = λ five. absurd (less five);
      mark = mark;
      goes_on = omega (arith, mark, place, apart);
      later = omega (arith, place);
      near = omega (arith, place);
      shows = λ k small come here.
          let same : place_of n + k ≡ place_of s + (k + 1) = omega (arith, place) in
          let few : k < 63 = omega (arith, come, place, near) in
          ap (λ m. packed_level body m) same
          ∙ shows (k + 1) (omega (arith, few)) (omega (arith, same, come)) (omega (arith, same, here))
          ∙ ap (λ m. Some (level_of (m == 1))) (sym (digit_next digits k few));
    }

-- it is taken
pub takes_chosen : (body : SentBody) (s n : Shift) (x : Level) (digits stop came more : ℕ) →
    IsChosen body s n x digits stop → 1 ≤ s.run →
    (x ≡ n.last → n.run < 5 → more ≡ n.run + 1) → (x ≢ n.last → more ≡ 1) →
    TakesInside (inside s.gathered came s.last s.run) x (inside n.gathered ((came + 1) % 256) x more)
takes_chosen body s n x digits stop came more h begun same fresh =
    let last : n.last ≡ s.last = ap (λ (t : Shift). t.last) h.kept in
    let ran : n.run ≡ s.run = ap (λ (t : Shift). t.run) h.kept in
    takes_one s.gathered n.gathered came s.run more s.last x begun h.differs h.bit h.stuff_bit
    (λ like less. same (like ∙ sym last) (omega (arith, ran, less)) ∙ omega (arith, ran))
    (λ unlike. fresh (λ e. unlike (e ∙ last))) h.goes_on h.near

-- and the last run is of five levels at most
pub runs_on : (body : SentBody) (s n : Shift) (x : Level) (digits stop more : ℕ) →
    IsChosen body s n x digits stop → s.run ≤ 5 →
    (x ≡ n.last → n.run < 5 → more ≡ n.run + 1) → (x ≢ n.last → more ≡ 1) → (1 ≤ more) × (more ≤ 5)
runs_on body s n x digits stop more h most same fresh =
    let last : n.last ≡ s.last = ap (λ (t : Shift). t.last) h.kept in
    let ran : n.run ≡ s.run = ap (λ (t : Shift). t.run) h.kept in
    elim (levels_equal x n.last) [
      | inl like ↦
          let less : n.run < 5 =
          elim (cases_eq s.run 5) [
            | inl five ↦ absurd (h.differs five (like ∙ last))
            | inr few ↦ omega (arith, ran, few, most)
          ] in
          let next = same like less in
          (omega (arith, next), omega (arith, next, less))
      | inr unlike ↦ let next = fresh unlike in (omega (arith, next), omega (arith, next))
    ]

-- the same of what is equal to it
pub chosen_as : (body : SentBody) (s n m : Shift) (x y : Level) (digits more stop : ℕ) → n ≡ m → x ≡ y →
    digits ≡ more → IsChosen body s m y more stop → IsChosen body s n x digits stop
chosen_as body s n m x y digits more stop is level left h =
    let P : Shift → Type 0 = λ (t : Shift). IsChosen body s t x digits stop in
    let Q : Level → Type 0 = λ z. IsChosen body s m z digits stop in
    let R : ℕ → Type 0 = λ k. IsChosen body s m y k stop in
    subst P (sym is) (subst Q (sym level) (subst R (sym left) h))

-- where a place stands before an end, the end isn't 0
pub past_none : {P : Type 0} (place stop : ℕ) → place < stop → P ⊎ (stop ≡ 0) → P
past_none place stop before (inl holds) = holds
past_none place stop before (inr none) = absurd (omega (arith, before, none))

-- a level more is sent, taken and written
pub sends_more : (body : SentBody) (old s n : Shift) (l : List Level) (a b : ℕ) (x : Level) (digits stop more : ℕ) →
    IsChosen body s n x digits stop →
    SendsAlong body old (slice_range l a b) (inside s.gathered ((old.count + (b - a)) % 256) s.last s.run) →
    1 ≤ s.run → (x ≡ n.last → n.run < 5 → more ≡ n.run + 1) → (x ≢ n.last → more ≡ 1) → a ≤ b → b < length l →
    SendsAlong body old (slice_range (set l b x) a (b + 1))
    (inside n.gathered ((old.count + (b + 1 - a)) % 256) x more)
sends_more body old s n l a b x digits stop more h sends begun same fresh order within =
    let came = (old.count + (b - a)) % 256 in
    let next : (old.count + (b + 1 - a)) % 256 ≡ (came + 1) % 256 = omega (arith, order) in
    let P : List Level → Type 0 = λ m. SendsAlong body old m (inside n.gathered ((came + 1) % 256) x more) in
    let Q : ℕ → Type 0 = λ k.
    SendsAlong body old (slice_range (set l b x) a (b + 1)) (inside n.gathered k x more) in
    subst Q (sym next) (subst P (sym (range_more l a b x order within))
    (one_level body old (inside s.gathered came s.last s.run) (inside n.gathered ((came + 1) % 256) x more)
    (slice_range l a b) x h.next sends (takes_chosen body s n x digits stop came more h begun same fresh)))

-- what stands behind it stays
pub rest_more : (l before : List Level) (b : ℕ) (x : Level) → drop b l ≡ drop b before →
    drop (b + 1) (set l b x) ≡ drop (b + 1) before
rest_more l before b x same =
    drop-set-lt (b + 1) l b x (omega arith) ∙ sym (drop-drop 1 b l) ∙ ap (λ m. drop 1 m) same ∙ drop-drop 1 b before
