-- Parts of lists, and lists from their last element.
use Rattle.std.proofs.Common.{◌<◌, ◌≤◌, ◌+◌, ◌-◌, length, take, drop, slice_range, ◌≡◌, ◌≢◌, sym, ℕ, zero, suc}
use Rattle.std.proofs.Common.{List, [], ◌∷◌, ◌++◌, reverse, replicate, refl, ap, ◌∙◌, add-one, arith, ◌⊎◌, inl, inr}
use Rattle.std.proofs.lemmas.List.{reverse-append, replicate_more, append_cancel_left, append-nil}
use Rattle.std.proofs.lemmas.List.{take_at, drop_at, length-take-le, length-drop}
use Rattle.std.proofs.Math.Seq.{take-add}
-- the rest of a list after a front of it
pub use Rattle.std.proofs.lemmas.List.{append_cancel_left as append-cancel}

-- a list with one more in front, reversed
pub reverse-cons : {A : Type 0} (x : A) (l : List A) → reverse (x ∷ l) ≡ reverse l ++ x ∷ []
reverse-cons x l = reverse-append (x ∷ []) l

-- a list with one more at its end, reversed
pub reverse-push : {A : Type 0} (l : List A) (x : A) → reverse (l ++ x ∷ []) ≡ x ∷ reverse l
reverse-push l x = reverse-append l (x ∷ [])

-- an element of a list that has one
pub some_of : {A : Type 0} (l : List A) (i : ℕ) → i < length l → A
some_of [] i less = absurd (omega (arith, less))
some_of (x ∷ l) i less = x

-- copies of one element, reversed
pub reverse-replicate : {A : Type 0} (n : ℕ) (x : A) → reverse (replicate n x) ≡ replicate n x
reverse-replicate zero x = refl
reverse-replicate (suc n) x =
    reverse-cons x (replicate n x) ∙ ap (λ l. l ++ x ∷ []) (reverse-replicate n x) ∙ replicate_more n x
    ∙ ap (λ k. replicate k x) (add-one n)

-- of two fronts of one list one is a front of the other
pub fronts : {A : Type 0} (a b x y : List A) → a ++ x ≡ b ++ y →
    ((c : List A) × (b ≡ a ++ c)) ⊎ ((c : List A) × (a ≡ b ++ c))
fronts [] b x y e = inl (b, refl)
fronts (u ∷ a) [] x y e = inr (u ∷ a, refl)
fronts (u ∷ a) (v ∷ b) x y e =
    let same : u ≡ v = cc in
    let rest : a ++ x ≡ b ++ y = cc in
    elim (fronts a b x y rest) [
      | inl longer ↦ let h = longer.1 in inl (longer.0, cc)
      | inr shorter ↦ let h = shorter.1 in inr (shorter.0, cc)
    ]

-- a list is empty or has a last element
pub last_of : {A : Type 0} (l : List A) → (l ≡ []) ⊎ ((before : List A) × (x : A) × (l ≡ before ++ x ∷ []))
last_of [] = inl refl
last_of (y ∷ l) =
    elim (last_of l) [
      | inl none ↦ inr ([], y, ap (λ t. y ∷ t) none)
      | inr some ↦ inr (y ∷ some.0, some.1, ap (λ t. y ∷ t) some.2)
    ]

-- a list is empty or has a first element
pub cases_list : {A : Type 0} (l : List A) → (l ≡ []) ⊎ ((x : A) × (rest : List A) × (l ≡ x ∷ rest))
cases_list [] = inl refl
cases_list (x ∷ l) = inr (x, l, refl)

-- a list with something after it isn't itself
pub longer_not : {A : Type 0} (l : List A) (x : A) (rest : List A) → l ++ x ∷ rest ≢ l
longer_not l x rest h = let none = append_cancel_left l (x ∷ rest) [] (h ∙ sym (append-nil l)) in cc

-- of two lists that are none together each is none
pub none_front : {A : Type 0} (a b : List A) → a ++ b ≡ [] → a ≡ []
none_front [] b e = refl
none_front (x ∷ a) b e = absurd cc

pub none_back : {A : Type 0} (a b : List A) → a ++ b ≡ [] → b ≡ []
none_back [] b e = e
none_back (x ∷ a) b e = absurd cc

-- equal lists, each in two parts: first parts of one length are equal, and so are the second ones
pub append-split : {A : Type 0} (a b c d : List A) → length a ≡ length c → a ++ b ≡ c ++ d → (a ≡ c) × (b ≡ d)
append-split a b c d n h = (
  sym (take_at a b (length c) n) ∙ ap (λ l. take (length c) l) h ∙ take_at c d (length c) refl,
  sym (drop_at a b (length c) n) ∙ ap (λ l. drop (length c) l) h ∙ drop_at c d (length c) refl,
)

-- how many elements a part of a list has
pub length_range : {A : Type 0} (l : List A) (a b : ℕ) → a ≤ b → b ≤ length l → length (slice_range l a b) ≡ b - a
length_range l a b h k = length-take-le (b - a) (drop a l) (omega (arith, length-drop a l))

-- one part more of a list
pub take-range : {A : Type 0} (l : List A) (a b : ℕ) → a ≤ b → take b l ≡ take a l ++ slice_range l a b
take-range l a b h = let e : b ≡ a + (b - a) = omega arith in ap (λ k. take k l) e ∙ take-add a (b - a) l
