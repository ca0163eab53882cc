-- Strikes of which those that have passed may be forgotten.
use Rattle.std.proofs.Common.{◌≡◌, ◌⊎◌, ◌↔◌, ◌≤◌, ℕ, Bool, true, false, List, [], ◌∷◌, ◌++◌, inl, inr, refl}
use Rattle.std.proofs.Common.{sym, subst, arith}
use Rattle.std.specs.List.Retain.{IsFiltered, ReturnsInTurn}
use Rattle.sja_steps.specs.declared.strike.Strike.{Strike}
use Rattle.sja_steps.specs.Striking.{Hits, Strikes}
use Rattle.sja_bus.specs.Inside.StrikesByBit.{HasPassed, StrikeAlike}
use Rattle.sja_bus.proofs.WholeBus.Marking.{none_there, struck_both, struck_push}

-- the same
pub alike_same : (script : List Strike) (from : ℕ) → StrikeAlike script script from
alike_same script from bit node on = (λ h. h, λ h. h)

-- with one strike more
pub alike_more : (one other : List Strike) (s : Strike) (from : ℕ) → StrikeAlike one other from →
    StrikeAlike (one ++ s ∷ []) (other ++ s ∷ []) from
alike_more one other s from same bit node on =
    let first = struck_push one s bit node in let then = struck_push other s bit node in
    let is = same bit node on in (
      λ h. then.1 (elim (first.0 h) [ inl was ↦ inl (is.0 was) | inr hits ↦ inr hits ]),
      λ h. first.1 (elim (then.0 h) [ inl was ↦ inl (is.1 was) | inr hits ↦ inr hits ]),
    )

-- one after the other, from a later bit on
pub alike_then : (one mid other : List Strike) (was from : ℕ) → StrikeAlike one mid was → was ≤ from →
    StrikeAlike mid other from → StrikeAlike one other from
alike_then one mid other was from first later then bit node on =
    let early = first bit node (omega (arith, later, on)) in let late = then bit node on in
    (λ h. late.0 (early.0 h), λ h. early.1 (late.1 h))

-- one strike, and those behind it
struck_first : (s : Strike) (script : List Strike) (bit node : ℕ) →
    Strikes (s ∷ script) bit node ↔ (Hits s bit node ⊎ Strikes script bit node)
struck_first s script bit node =
    let both = struck_both (s ∷ []) script bit node in let alone = struck_push [] s bit node in (
      λ h. elim (both.0 h) [
        | inl one ↦ inl (elim (alone.0 one) [
          | inl none ↦ absurd (none_there none.strike none.in_script)
          | inr hits ↦ hits
        ])
        | inr then ↦ inr then
      ],
      λ h. both.1 (elim h [ inl hits ↦ inl (alone.1 (inr hits)) | inr then ↦ inr then ]),
    )

-- behind one strike
alike_behind : (s : Strike) (xs ys : List Strike) (from : ℕ) → StrikeAlike xs ys from →
    StrikeAlike (s ∷ xs) (s ∷ ys) from
alike_behind s xs ys from same bit node on =
    let was = struck_first s xs bit node in let now = struck_first s ys bit node in let all = same bit node on in (
      λ h. now.1 (elim (was.0 h) [ inl hits ↦ inl hits | inr then ↦ inr (all.0 then) ]),
      λ h. was.1 (elim (now.0 h) [ inl hits ↦ inl hits | inr then ↦ inr (all.1 then) ]),
    )

-- without one that has passed
alike_without : (s : Strike) (xs ys : List Strike) (from : ℕ) → HasPassed s from → StrikeAlike xs ys from →
    StrikeAlike (s ∷ xs) ys from
alike_without s xs ys from passed same bit node on =
    let was = struck_first s xs bit node in let all = same bit node on in (
      λ h. elim (was.0 h) [ inl hits ↦ absurd (passed bit node on hits) | inr then ↦ all.0 then ],
      λ h. was.1 (inr (all.1 h)),
    )

-- those that a test keeps strike as all do, where one that it doesn't keep has passed
module _ {F : Type 0} (R : F → Strike → Bool → F → Type 0) (f : F) (from : ℕ)
    (says : (s : Strike) (b : Bool) (g : F) → R f s b g → (b ≡ false → HasPassed s from) × (g ≡ f)) where
  pub alike_kept : (xs ys : List Strike) → IsFiltered R f xs ys → StrikeAlike xs ys from
  alike_kept [] ys ([], q, long, turns, is) =
      let P : List Strike → Type 0 = λ l. StrikeAlike [] l from in subst P (sym is) (alike_same [] from)
  alike_kept [] ys (b ∷ bs, q, long, turns, is) = absurd (omega (arith, long))
  alike_kept (x ∷ xs) ys ([], q, long, turns, is) = absurd (omega (arith, long))
  alike_kept (x ∷ xs) ys (true ∷ bs, q, long, turns, is) =
      let T : F → Type 0 = λ g. ReturnsInTurn R g bs xs q in
      let P : List Strike → Type 0 = λ l. StrikeAlike (x ∷ xs) l from in
      let rest = alike_kept xs _ (bs, q, omega (arith, long), subst T (says x true turns.0 turns.1).1 turns.2, refl) in
      subst P (sym is) (alike_behind x xs _ from rest)
  alike_kept (x ∷ xs) ys (false ∷ bs, q, long, turns, is) =
      let one = says x false turns.0 turns.1 in let T : F → Type 0 = λ g. ReturnsInTurn R g bs xs q in
      let P : List Strike → Type 0 = λ l. StrikeAlike (x ∷ xs) l from in
      let rest = alike_kept xs _ (bs, q, omega (arith, long), subst T one.1 turns.2, refl) in
      subst P (sym is) (alike_without x xs _ from (one.0 refl) rest)
