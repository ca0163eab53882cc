-- What is kept of the levels with a right one more of the stuffed part.
use Rattle.std.proofs.Common.{◌≡◌, ◌≢◌, ◌+◌, ◌%◌, ◌<◌, ◌∙◌, ◌++◌, ◌∷◌, [], ℕ, List}
use Rattle.std.proofs.Common.{length, reverse, inl, inr, refl, sym, subst, arith, ap}
use Rattle.std.proofs.lemmas.Bool.{cases_eq}
use Rattle.std.proofs.lemmas.List.{length_push}
use Rattle.can_levels.specs.declared.level.Level.{Level}
use Rattle.can_levels.specs.declared.level.Level.TheVariants.{Dominant}
use Rattle.can_bits.specs.declared.body_word.BodyWord.{BodyWord}
use Rattle.can_bits.specs.declared.shift.Shift.{Shift}
use Rattle.can_bits.specs.Inside.Gathering.{Gathers}
use Rattle.can_levels.specs.PartSoFar.{IsPartSoFar}
use Rattle.can_bits.specs.Inside.FrameParts.{IsInside}
use Rattle.can_levels.proofs.Whole.Steps.{room_left}
use Rattle.can_levels.proofs.Reader.Inside.{holds_by, before_by}
use Rattle.can_bits.proofs.Reader.Take.{count_small, so_far_next}

-- the levels with one more, and what is gathered of them
pub record Taken (l : List Level) (x : Level) (run : ℕ) (g : BodyWord) : Type 0 where
  pub plain : List Level
  pub so_far : IsPartSoFar (l ++ x ∷ []) plain x run
  pub gathers : Gathers g plain

-- a right level is taken
pub taken : (old : Shift) (l : List Level) (x : Level) (run : ℕ) (g : BodyWord) →
    IsInside old.gathered old.count old.last old.run l →
    (old.count ≡ 0 → x ≡ Dominant) → (old.run ≡ 5 → x ≢ old.last) →
    ((w : List Level) → Gathers old.gathered w → length w < 118 → old.run ≢ 5 → Gathers g (w ++ x ∷ [])) →
    (old.run ≡ 5 → g ≡ old.gathered) →
    (x ≡ old.last → old.run < 5 → run ≡ old.run + 1) → (x ≢ old.last → run ≡ 1) → Taken l x run g
taken old l x run g h start differs bit stuff_bit same fresh =
    let w : List Level = h.bits in
    let first : l ≡ [] → x ≡ Dominant = λ none. start (h.count ∙ ap length none) in
    let holds = holds_by h.part.so_far in
    let most = holds.most in
    elim (cases_eq old.run 5) [
      | inl five ↦
          let P : BodyWord → Type 0 = λ k. Gathers k w in
          record {
            plain = w;
            so_far = so_far_next w x run h.part first differs (inr (five, refl)) same fresh;
            gathers = subst P (sym (stuff_bit five)) h.gathers;
          }
      | inr less ↦
          let room = room_left (reverse l) w old.last old.run holds (before_by h.part) (omega (arith, most, less)) in
          record {
            plain = w ++ x ∷ [];
            so_far = so_far_next (w ++ x ∷ []) x run h.part first differs (inl (less, refl)) same fresh;
            gathers = bit w h.gathers room less;
          }
    ]

-- a right level is taken where only what is gathered has changed, and is counted
pub taken_next : (old n : Shift) (l : List Level) (x : Level) (run : ℕ) →
    IsInside old.gathered old.count old.last old.run l →
    (old.count ≡ 0 → x ≡ Dominant) → (old.run ≡ 5 → x ≢ old.last) → n ≡ record old { gathered = n.gathered } →
    ((w : List Level) → Gathers old.gathered w → length w < 118 → old.run ≢ 5 → Gathers n.gathered (w ++ x ∷ [])) →
    (old.run ≡ 5 → n.gathered ≡ old.gathered) → (x ≡ n.last → n.run < 5 → run ≡ n.run + 1) → (x ≢ n.last → run ≡ 1) →
    Taken l x run n.gathered × ((n.count + 1) % 256 ≡ length (l ++ x ∷ []))
taken_next old n l x run h start differs kept bit stuff_bit same fresh =
    let last : n.last ≡ old.last = ap (λ (s : Shift). s.last) kept in
    let ran : n.run ≡ old.run = ap (λ (s : Shift). s.run) kept in
    let came : n.count ≡ old.count = ap (λ (s : Shift). s.count) kept in
    let small = count_small h.part.so_far in
    let count = h.count in (
      taken old l x run n.gathered h start differs bit stuff_bit
          (λ like less. same (like ∙ sym last) (omega (arith, ran, less)) ∙ omega (arith, ran))
          (λ other. fresh (λ e. other (e ∙ last))),
      omega (arith, came, small, count, length_push l x),
    )
