-- One arbitration field that loses to another.
use Rattle.std.proofs.Common.{◌≡◌, ◌≢◌, ◌/◌, ◌^◌, ◌<◌, ◌≤◌, ◌⊎◌, ℕ, zero, suc, Bool, true, false, List, [], ◌∷◌}
use Rattle.std.proofs.Common.{◌++◌, length, take, Some, refl, ap, sym, subst, ◌∙◌, arith, append_assoc, inl, inr}
use Rattle.std.specs.List.{slice_get}
use Rattle.std.proofs.lemmas.Bool.{cases_order}
use Rattle.std.proofs.lemmas.List.{take-take, take-append-le, take_at, length-append}
use Rattle.std.proofs.lemmas.Option.{slice_get_within}
use Rattle.can_frame.specs.Frame.{FrameValue}
use Rattle.can_levels.specs.declared.level.Level.{Level}
use Rattle.can_levels.specs.declared.level.Level.TheVariants.{Dominant, Recessive}
use Rattle.can_levels.specs.Digits.{bits, level_of}
use Rattle.can_levels.proofs.Values.{length-bits}
use Rattle.can_node_rules.specs.Contending.{arbitration_field, LosesAt}
use Rattle.can_node_rules.proofs.Contending.FieldLevels.{get-append_left, get-append_right, field_by}
use Rattle.can_node_rules.proofs.Contending.FieldLevels.{length_standard, length_extended, field_is}

-- a place within a front of a list
get-take : {A : Type 0} (n : ℕ) (l : List A) (k : ℕ) → k < n → slice_get (take n l) k ≡ slice_get l k
get-take zero l k h = absurd (omega arith)
get-take (suc n) [] k h = refl
get-take (suc n) (x ∷ l) zero h = refl
get-take (suc n) (x ∷ l) (suc k) h = get-take n l k (omega arith)

-- lists with the same front are the same at each place within it
pub same_at : {A : Type 0} (a b : List A) (n k : ℕ) → take n a ≡ take n b → k < n → slice_get a k ≡ slice_get b k
same_at a b n k e h = sym (get-take n a k h) ∙ ap (λ l. slice_get l k) e ∙ get-take n b k h

-- and have the same shorter fronts
same_front : {A : Type 0} (a b : List A) (m n : ℕ) → take n a ≡ take n b → m ≤ n → take m a ≡ take m b
same_front a b m n e h = sym (take-take m n a h) ∙ ap (λ l. take m l) e ∙ take-take m n b h

-- a field doesn't lose to itself
pub not_to_itself : (a : List Level) (n : ℕ) → ¬ LosesAt a a n
not_to_itself a n h = let bad : Some Recessive ≡ Some Dominant = sym h.own ∙ h.other in cc

-- it loses to another at one place
pub one_place : (a b : List Level) (n m : ℕ) → LosesAt a b n → LosesAt a b m → n ≡ m
one_place a b n m x y =
    elim (cases_order n m) [
      | inl same ↦ same
      | inr (inl before) ↦ let bad : Some Recessive ≡ Some Dominant =
          sym x.own ∙ same_at a b m n y.same before ∙ x.other in cc
      | inr (inr after) ↦ let bad : Some Recessive ≡ Some Dominant =
          sym y.own ∙ same_at a b n m x.same after ∙ y.other in cc
    ]

-- what loses to a loser loses to the winner
pub loses_on : (a b c : List Level) (n m : ℕ) → LosesAt a b n → LosesAt b c m → (k : ℕ) × LosesAt a c k
loses_on a b c n m x y =
    elim (cases_order n m) [
      | inl same ↦ let bad : Some Dominant ≡ Some Recessive =
          sym x.other ∙ ap (λ k. slice_get b k) same ∙ y.own in absurd cc
      | inr (inl before) ↦ (
        n,
        record {
          same = x.same ∙ same_front b c n m y.same (omega arith);
          own = x.own;
          other = sym (same_at b c m n y.same before) ∙ x.other;
        },
      )
      | inr (inr after) ↦ (
        m,
        record {
          same = same_front a b m n x.same (omega arith) ∙ y.same;
          own = same_at a b n m x.same after ∙ y.own;
          other = y.other;
        },
      )
    ]

-- lists that are the same up to a place, and there
pub same_more : {A : Type 0} (a b : List A) (i : ℕ) → take i a ≡ take i b → slice_get a i ≡ slice_get b i →
    take (suc i) a ≡ take (suc i) b
same_more [] [] i front here = refl
same_more [] (y ∷ b) zero front here = cc
same_more [] (y ∷ b) (suc i) front here = cc
same_more (x ∷ a) [] zero front here = cc
same_more (x ∷ a) [] (suc i) front here = cc
same_more (x ∷ a) (y ∷ b) zero front here = let head : x ≡ y = cc in ap (λ z. z ∷ []) head
same_more (x ∷ a) (y ∷ b) (suc i) front here =
    let head : x ≡ y = cc in
    let later : take i a ≡ take i b = cc in
    let rest = same_more a b i later here in
    cc

-- a field that differs from another for the first time where it doesn't lose, loses nowhere
pub loses_nowhere : (a b : List Level) (m : ℕ) → take m a ≡ take m b → slice_get a m ≢ slice_get b m →
    ((slice_get a m ≡ Some Recessive) × (slice_get b m ≡ Some Dominant) → ⊥) → (n : ℕ) → ¬ LosesAt a b n
loses_nowhere a b m same differ stands n h =
    elim (cases_order n m) [
      | inl here ↦ let P : ℕ → Type 0 = λ k. (slice_get a k ≡ Some Recessive) × (slice_get b k ≡ Some Dominant) in
          stands (subst P here (h.own, h.other))
      | inr (inl before) ↦ let bad : Some Recessive ≡ Some Dominant =
          sym h.own ∙ same_at a b m n same before ∙ h.other in cc
      | inr (inr after) ↦ differ (same_at a b n m h.same after)
    ]

-- nor does one that is the same
pub loses_not_within : (a b : List Level) (m : ℕ) → length a ≤ m → take m a ≡ take m b → (n : ℕ) → ¬ LosesAt a b n
loses_not_within a b m short same n h =
    let within = slice_get_within a n Recessive h.own in
    let bad : Some Recessive ≡ Some Dominant = sym h.own ∙ same_at a b m n same (omega arith) ∙ h.other in
    cc

-- two fields are the same, or one loses to the other
abbrev pub Compared : List Level → List Level → Type 0
Compared a b = (a ≡ b) ⊎ (((n : ℕ) × LosesAt a b n) ⊎ ((n : ℕ) × LosesAt b a n))

-- a loss behind a level that is the same
loses_behind : (x : Level) (a b : List Level) (n : ℕ) → LosesAt a b n → LosesAt (x ∷ a) (x ∷ b) (suc n)
loses_behind x a b n h = record { same = ap (λ l. x ∷ l) h.same; own = h.own; other = h.other }

-- lists of one length are compared
compared_behind : (x : Level) (a b : List Level) → Compared a b → Compared (x ∷ a) (x ∷ b)
compared_behind x a b (inl same) = inl (ap (λ l. x ∷ l) same)
compared_behind x a b (inr (inl first)) = inr (inl (suc first.0, loses_behind x a b first.0 first.1))
compared_behind x a b (inr (inr second)) = inr (inr (suc second.0, loses_behind x b a second.0 second.1))

compared : (a b : List Level) → length a ≡ length b → Compared a b
compared [] [] h = inl refl
compared [] (y ∷ b) h = absurd (omega arith)
compared (x ∷ a) [] h = absurd (omega arith)
compared (Dominant ∷ a) (Dominant ∷ b) h = compared_behind Dominant a b (compared a b (omega arith))
compared (Recessive ∷ a) (Recessive ∷ b) h = compared_behind Recessive a b (compared a b (omega arith))
compared (Recessive ∷ a) (Dominant ∷ b) h = inr (inl (0, record { same = refl; own = refl; other = refl }))
compared (Dominant ∷ a) (Recessive ∷ b) h = inr (inr (0, record { same = refl; own = refl; other = refl }))

-- a loss, whatever follows
loses_before : (a b x y : List Level) (n : ℕ) → LosesAt a b n → LosesAt (a ++ x) (b ++ y) n
loses_before a b x y n h =
    let own = slice_get_within a n Recessive h.own in
    let other = slice_get_within b n Dominant h.other in
    record {
      same = take-append-le n a x (omega arith) ∙ h.same ∙ sym (take-append-le n b y (omega arith));
      own = get-append_left a x n own ∙ h.own;
      other = get-append_left b y n other ∙ h.other;
    }

-- lists of one length, before a dominant level and a recessive one
compared_before : (a b x y : List Level) → length a ≡ length b → Compared a b →
    Compared (a ++ Dominant ∷ x) (b ++ Recessive ∷ y)
compared_before a b x y h (inl same) =
    let n : ℕ = length a in
    inr (inr (
      n,
      record {
        same = take_at b (Recessive ∷ y) n (sym h) ∙ sym same ∙ sym (take_at a (Dominant ∷ x) n refl);
        own = get-append_right b (Recessive ∷ y) n n 0 (sym h) (omega arith);
        other = get-append_right a (Dominant ∷ x) n n 0 refl (omega arith);
      },
    ))
compared_before a b x y h (inr (inl first)) =
    inr (inl (first.0, loses_before a b (Dominant ∷ x) (Recessive ∷ y) first.0 first.1))
compared_before a b x y h (inr (inr second)) =
    inr (inr (second.0, loses_before b a (Recessive ∷ y) (Dominant ∷ x) second.0 second.1))

-- the other way round
turned : (a b : List Level) → Compared a b → Compared b a
turned a b (inl same) = inl (sym same)
turned a b (inr (inl first)) = inr (inr first)
turned a b (inr (inr second)) = inr (inl second)

-- a standard field and an extended one
compared_formats : (i j : ℕ) (r s : Bool) → Compared (field_by false i r) (field_by true j s)
compared_formats i j r s =
    let a : List Level = bits 11 i ++ level_of r ∷ [] in
    let high : List Level = bits 11 (j / 2 ^ 18) in
    let b : List Level = high ++ Recessive ∷ [] in
    let low : List Level = bits 18 j ++ level_of s ∷ [] in
    let one : length a ≡ 12 = omega (arith, length-append (bits 11 i) (level_of r ∷ []), length-bits 11 i) in
    let other : length b ≡ 12 = omega (arith, length-append high (Recessive ∷ []), length-bits 11 (j / 2 ^ 18)) in
    let before = compared_before a b [] low (one ∙ sym other) (compared a b (one ∙ sym other)) in
    let P : List Level → Type 0 = λ l. Compared l (field_by true j s) in
    let Q : List Level → Type 0 = λ l. Compared (a ++ Dominant ∷ []) l in
    subst P (append_assoc (bits 11 i) (level_of r ∷ []) (Dominant ∷ []))
    (subst Q (append_assoc high (Recessive ∷ []) (Recessive ∷ low)) before)

-- two fields by their formats
compared_by : (e g : Bool) (i j : ℕ) (r s : Bool) → Compared (field_by e i r) (field_by g j s)
compared_by false false i j r s =
    compared (field_by false i r) (field_by false j s) (length_standard i r ∙ sym (length_standard j s))
compared_by true true i j r s =
    compared (field_by true i r) (field_by true j s) (length_extended i r ∙ sym (length_extended j s))
compared_by false true i j r s = compared_formats i j r s
compared_by true false i j r s = turned (field_by false j s) (field_by true i r) (compared_formats j i s r)

-- the arbitration fields of two frames
pub fields_compared : (f g : FrameValue) → Compared (arbitration_field f) (arbitration_field g)
fields_compared f g =
    let P : List Level → Type 0 = λ l. Compared l (arbitration_field g) in
    let Q : List Level → Type 0 = λ l. Compared (field_by f.ext f.id f.rtr) l in
    subst P (sym (field_is f)) (subst Q (sym (field_is g)) (compared_by f.ext g.ext f.id g.id f.rtr g.rtr))
