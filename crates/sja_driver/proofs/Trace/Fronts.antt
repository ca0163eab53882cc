-- A moment of a journal is its front up to the first entry that comes later, and no other front is.
use Rattle.std.proofs.Common.{◌≡◌, ◌+◌, ℕ, zero, suc, List, [], ◌∷◌, ◌++◌, length, refl, sym, ap, ◌∙◌, subst}
use Rattle.std.proofs.Common.{append_assoc, append-nil, arith, inl, inr}
use Rattle.std.specs.Prelude.{◌⊎◌, ◌↔◌}
use Rattle.std.proofs.lemmas.List.{length-append}
use Rattle.sja_journal.specs.declared.entry.Entry.{Entry}
use Rattle.sja_journal.specs.declared.entry.Entry.TheVariants.{Bit, Up as Item, Abort, Stored, Overrun, Off}
use Rattle.sja_journal.specs.Carried.{bit_in, bits_of, taken_in, taken_of}
use Rattle.lemmas.specs.Picking.{EachAfter}
use Rattle.lemmas.proofs.Gathered.{gathered_push}
use Rattle.sja_driver.specs.Moments.{at_moment, IsLater, IsFront}

-- ---- how a moment goes on at an entry, where so many bits and items are left

abbrev Stops : ℕ → ℕ → Entry → Type 0
Stops n u (Bit driven seen) = n ≡ 0
Stops n u Abort = n ≡ 0
Stops n u (Item item) = u ≡ 0
Stops n u (Stored m) = ⊥
Stops n u (Overrun m) = ⊥
Stops n u Off = ⊥

record GoesOn (n u : ℕ) (e : Entry) (j : List Entry) : Type 0 where
  pub bits : ℕ
  pub items : ℕ
  pub is : at_moment n u (e ∷ j) ≡ e ∷ at_moment bits items j
  pub bits_left : bits + length (bit_in e) ≡ n
  pub items_left : items + length (taken_in e) ≡ u
  pub early : Stops n u e → ⊥

abbrev HasNext : ℕ → ℕ → Entry → List Entry → Type 0
HasNext n u e j = (Stops n u e × (at_moment n u (e ∷ j) ≡ [])) ⊎ GoesOn n u e j

goes_on : (n u bits items : ℕ) (e : Entry) (j : List Entry) → at_moment n u (e ∷ j) ≡ e ∷ at_moment bits items j →
    bits + length (bit_in e) ≡ n → items + length (taken_in e) ≡ u → (Stops n u e → ⊥) → HasNext n u e j
goes_on n u bits items e j is b t early = inr (record {
  bits = bits;
  items = items;
  is = is;
  bits_left = b;
  items_left = t;
  early = early;
})

-- an entry that is neither a bit nor an item nor an abort comes always
verdict_next : (n u : ℕ) (e : Entry) (j : List Entry) → at_moment n u (e ∷ j) ≡ e ∷ at_moment n u j →
    length (bit_in e) ≡ 0 → length (taken_in e) ≡ 0 → (Stops n u e → ⊥) → HasNext n u e j
verdict_next n u e j is b t early = goes_on n u n u e j is (omega (arith, b)) (omega (arith, t)) early

bit_next : (n u : ℕ) (e : Entry) (j : List Entry) → at_moment (suc n) u (e ∷ j) ≡ e ∷ at_moment n u j →
    length (bit_in e) ≡ 1 → length (taken_in e) ≡ 0 → (Stops (suc n) u e → ⊥) → HasNext (suc n) u e j
bit_next n u e j is b t early = goes_on (suc n) u n u e j is (omega (arith, b)) (omega (arith, t)) early

item_next : (n u : ℕ) (e : Entry) (j : List Entry) → at_moment n (suc u) (e ∷ j) ≡ e ∷ at_moment n u j →
    length (bit_in e) ≡ 0 → length (taken_in e) ≡ 1 → (Stops n (suc u) e → ⊥) → HasNext n (suc u) e j
item_next n u e j is b t early = goes_on n (suc u) n u e j is (omega (arith, b)) (omega (arith, t)) early

not_zero : (n : ℕ) → suc n ≡ 0 → ⊥
not_zero n e = omega (arith, e)

next : (n u : ℕ) (e : Entry) (j : List Entry) → HasNext n u e j
next zero zero (Bit x s) j = inl (refl, refl)
next zero (suc u) (Bit x s) j = inl (refl, refl)
next (suc n) zero (Bit x s) j = bit_next n zero (Bit x s) j refl refl refl (not_zero n)
next (suc n) (suc u) (Bit x s) j = bit_next n (suc u) (Bit x s) j refl refl refl (not_zero n)
next zero zero (Item i) j = inl (refl, refl)
next (suc n) zero (Item i) j = inl (refl, refl)
next zero (suc u) (Item i) j = item_next zero u (Item i) j refl refl refl (not_zero u)
next (suc n) (suc u) (Item i) j = item_next (suc n) u (Item i) j refl refl refl (not_zero u)
next zero zero Abort j = inl (refl, refl)
next zero (suc u) Abort j = inl (refl, refl)
next (suc n) zero Abort j = verdict_next (suc n) zero Abort j refl refl refl (not_zero n)
next (suc n) (suc u) Abort j = verdict_next (suc n) (suc u) Abort j refl refl refl (not_zero n)
next zero zero (Stored m) j = verdict_next zero zero (Stored m) j refl refl refl (λ no. no)
next zero (suc u) (Stored m) j = verdict_next zero (suc u) (Stored m) j refl refl refl (λ no. no)
next (suc n) zero (Stored m) j = verdict_next (suc n) zero (Stored m) j refl refl refl (λ no. no)
next (suc n) (suc u) (Stored m) j = verdict_next (suc n) (suc u) (Stored m) j refl refl refl (λ no. no)
next zero zero (Overrun m) j = verdict_next zero zero (Overrun m) j refl refl refl (λ no. no)
next zero (suc u) (Overrun m) j = verdict_next zero (suc u) (Overrun m) j refl refl refl (λ no. no)
next (suc n) zero (Overrun m) j = verdict_next (suc n) zero (Overrun m) j refl refl refl (λ no. no)
next (suc n) (suc u) (Overrun m) j = verdict_next (suc n) (suc u) (Overrun m) j refl refl refl (λ no. no)
next zero zero Off j = verdict_next zero zero Off j refl refl refl (λ no. no)
next zero (suc u) Off j = verdict_next zero (suc u) Off j refl refl refl (λ no. no)
next (suc n) zero Off j = verdict_next (suc n) zero Off j refl refl refl (λ no. no)
next (suc n) (suc u) Off j = verdict_next (suc n) (suc u) Off j refl refl refl (λ no. no)

none_there : (n u : ℕ) → at_moment n u [] ≡ []
none_there zero zero = refl
none_there zero (suc u) = refl
none_there (suc n) zero = refl
none_there (suc n) (suc u) = refl

-- ---- where it stops the entry comes later

module _ (bits items : ℕ) (done : List Entry) (n u : ℕ) (b : length (bits_of done) + n ≡ bits)
    (i : length (taken_of done) + u ≡ items) where
  stops_later : (e : Entry) → Stops n u e → IsLater bits items done e
  stops_later (Bit x s) h = omega (arith, b, h)
  stops_later Abort h = omega (arith, b, h)
  stops_later (Item x) h = omega (arith, i, h)
  stops_later (Stored m) h = h
  stops_later (Overrun m) h = h
  stops_later Off h = h

  later_stops : (e : Entry) → IsLater bits items done e → Stops n u e
  later_stops (Bit x s) h = omega (arith, b, h)
  later_stops Abort h = omega (arith, b, h)
  later_stops (Item x) h = omega (arith, i, h)
  later_stops (Stored m) h = h
  later_stops (Overrun m) h = h
  later_stops Off h = h

-- ---- fronts of a journal that comes after some entries

record FrontAfter (bits items : ℕ) (done j front : List Entry) : Type 0 where
  pub rest : List Entry
  pub whole : j ≡ front ++ rest
  pub early : EachAfter (λ before e. ¬ IsLater bits items before e) done front
  pub ends : (e : Entry) (more : List Entry) → rest ≡ e ∷ more → IsLater bits items (done ++ front) e

bits_push : (done : List Entry) (e : Entry) →
    length (bits_of (done ++ e ∷ [])) ≡ length (bits_of done) + length (bit_in e)
bits_push done e = ap (λ l. length l) (gathered_push bit_in done e) ∙ length-append (bits_of done) (bit_in e)

items_push : (done : List Entry) (e : Entry) →
    length (taken_of (done ++ e ∷ [])) ≡ length (taken_of done) + length (taken_in e)
items_push done e = ap (λ l. length l) (gathered_push taken_in done e) ∙ length-append (taken_of done) (taken_in e)

front_of : (bits items : ℕ) (j done : List Entry) (n u : ℕ) → length (bits_of done) + n ≡ bits →
    length (taken_of done) + u ≡ items → FrontAfter bits items done j (at_moment n u j)
front_of bits items [] done n u b i =
    let P : List Entry → Type 0 = λ f. FrontAfter bits items done [] f in
    subst P (sym (none_there n u)) (record { rest = []; whole = refl; early = tt; ends = λ e more no. absurd cc })
front_of bits items (e ∷ j) done n u b i =
    let P : List Entry → Type 0 = λ f. FrontAfter bits items done (e ∷ j) f in elim (next n u e j) [
      | inl stops ↦ subst P (sym stops.1) (record {
        rest = e ∷ j;
        whole = refl;
        early = tt;
        ends = λ x more same. let is : e ≡ x = cc in
            subst (λ (y : Entry). IsLater bits items (done ++ []) y) is
            (subst (λ (l : List Entry). IsLater bits items l e) (sym (append-nil done))
            (stops_later bits items done n u b i e stops.0));
      })
      | inr on ↦
          let x = bits_push done e in let y = items_push done e in
          let c = on.bits_left in let d = on.items_left in
          let f = front_of bits items j (done ++ e ∷ []) on.bits on.items (omega (arith, b, x, c))
          (omega (arith, i, y, d)) in subst P (sym on.is) (record {
            rest = f.rest;
            whole = ap (λ l. e ∷ l) f.whole;
            early = (λ late. on.early (later_stops bits items done n u b i e late), f.early);
            ends = λ z more same. subst (λ (l : List Entry). IsLater bits items l z)
                (append_assoc done (e ∷ []) (at_moment on.bits on.items j)) (f.ends z more same);
          })
    ]

-- what comes after the first entry
front_rest : (bits items : ℕ) (done j : List Entry) (e : Entry) (f : List Entry)
    (h : FrontAfter bits items done j (e ∷ f)) (l : List Entry) → l ≡ f ++ h.rest →
    FrontAfter bits items (done ++ e ∷ []) l f
front_rest bits items done j e f h l is = record {
  rest = h.rest;
  whole = is;
  early = h.early.1;
  ends = λ x more same. subst (λ (m : List Entry). IsLater bits items m x) (sym (append_assoc done (e ∷ []) f))
      (h.ends x more same);
}

-- one of two fronts isn't shorter
not_shorter : (bits items : ℕ) (done j : List Entry) (e : Entry) (g : List Entry) → FrontAfter bits items done j [] →
    FrontAfter bits items done j (e ∷ g) → ⊥
not_shorter bits items done j e g a b = b.early.0 (subst (λ (l : List Entry). IsLater bits items l e) (append-nil done)
    (a.ends e (g ++ b.rest) (sym a.whole ∙ b.whole)))

front_once : (bits items : ℕ) (done j f g : List Entry) → FrontAfter bits items done j f →
    FrontAfter bits items done j g → f ≡ g
front_once bits items done j [] [] a b = refl
front_once bits items done j [] (x ∷ g) a b = absurd (not_shorter bits items done j x g a b)
front_once bits items done j (e ∷ f) [] a b = absurd (not_shorter bits items done j e f b a)
front_once bits items done j (e ∷ f) (x ∷ g) a b =
    let same : e ∷ (f ++ a.rest) ≡ x ∷ (g ++ b.rest) = sym a.whole ∙ b.whole in
    let first : e ≡ x = cc in let later : f ++ a.rest ≡ g ++ b.rest = cc in
    let one = front_rest bits items done j e f a (f ++ a.rest) refl in
    let two = subst (λ (y : Entry). FrontAfter bits items (done ++ y ∷ []) (f ++ a.rest) g) (sym first)
    (front_rest bits items done j x g b (f ++ a.rest) later) in
    let rest = front_once bits items (done ++ e ∷ []) (f ++ a.rest) f g one two in λ i. first i ∷ rest i

-- ---- the law

front_as : (bits items : ℕ) (j front : List Entry) → IsFront bits items j front → FrontAfter bits items [] j front
front_as bits items j front h = record { rest = h.rest; whole = h.whole; early = h.early; ends = h.ends }

pub moment_is : (bits items : ℕ) (j front : List Entry) →
    IsFront bits items j front ↔ (front ≡ at_moment bits items j)
moment_is bits items j front =
    let f = front_of bits items j [] bits items (omega arith) (omega arith) in (
      λ h. front_once bits items [] j front (at_moment bits items j) (front_as bits items j front h) f,
      λ e. let P : List Entry → Type 0 = λ l. IsFront bits items j l in
          subst P (sym e) (record { rest = f.rest; whole = f.whole; early = f.early; ends = f.ends }),
    )
