-- The places that strikes are at, one after another, and the earliest of them.
use Rattle.std.proofs.Common.{◌≡◌, ◌<◌, ◌≤◌, ◌+◌, ℕ, zero, suc, Option, Some, None, List, [], ◌∷◌, ◌++◌, length, map}
use Rattle.std.proofs.Common.{get_or, refl, sym, ap, ◌∙◌, subst, arith, append_assoc, true, false, Bool, nat_lt}
use Rattle.std.proofs.Common.{◌⊎◌, inl, inr}
use Rattle.std.specs.Prelude.{if◌then◌else◌}
use Rattle.std.specs.List.{range_with_len}
use Rattle.std.proofs.lemmas.Bool.Decides.{nat_tests}
use Rattle.std.proofs.lemmas.List.{map-append, get_or_default}
use Rattle.sja_plan.specs.declared.placed_strike.PlacedStrike.{PlacedStrike}
use Rattle.text_frames.specs.FrameStories.{NodeStory}
use Rattle.sja_placed_strikes.specs.declared.aim.Aim.{Aim}
use Rattle.sja_placed_strikes.specs.declared.aimed_frame.AimedFrame.{AimedFrame}
use Rattle.sja_placed_strikes.specs.declared.aimed_frame.AimedFrame.TheVariants.{OfNode}
use Rattle.sja_placed_strikes.specs.Aims.{aim_at, bit_at}
use Rattle.sja_placed_strikes.specs.Inside.Searching.{earlier, IsFirstOf, IsEarliest}

-- ---- the first frames of a node

range_push : (a n j : ℕ) → a + n ≡ j → range_with_len a (suc n) ≡ range_with_len a n ++ j ∷ []
range_push a zero j e = let same : a ≡ j = omega (arith, e) in ap (λ k. k ∷ []) same
range_push a (suc n) j e = ap (λ l. a ∷ l) (range_push (a + 1) n j (omega (arith, e)))

pub aims_more : (s : PlacedStrike) (begun old new : List Aim) (i : ℕ) →
    old ≡ begun ++ map (aim_at s) (map OfNode (range_with_len 1 i)) →
    new ≡ old ++ aim_at s (OfNode (i + 1)) ∷ [] →
    new ≡ begun ++ map (aim_at s) (map OfNode (range_with_len 1 (i + 1)))
aims_more s begun old new i so_far added =
    let one : i + 1 ≡ suc i = omega arith in
    let next : 1 + i ≡ i + 1 = omega arith in
    let of = λ (l : List ℕ). map (aim_at s) (map OfNode l) in
    let more : of (range_with_len 1 (i + 1)) ≡ of (range_with_len 1 i) ++ aim_at s (OfNode (i + 1)) ∷ [] =
    ap (λ (k : ℕ). of (range_with_len 1 k)) one ∙ ap of (range_push 1 i (i + 1) next)
    ∙ ap (map (aim_at s)) (map-append OfNode (range_with_len 1 i) ((i + 1) ∷ []))
    ∙ map-append (aim_at s) (map OfNode (range_with_len 1 i)) (OfNode (i + 1) ∷ []) in
    added ∙ ap (λ l. l ++ aim_at s (OfNode (i + 1)) ∷ []) so_far
    ∙ append_assoc begun (of (range_with_len 1 i)) (aim_at s (OfNode (i + 1)) ∷ []) ∙ ap (λ l. begun ++ l) (sym more)

-- ---- the earliest one

module _ (found : List NodeStory) (bits : ℕ) (aims : List Aim) (i : ℕ) (e : Aim) (within : i < length aims) where
  abbrev a : Aim
  a = get_or aims i e

  -- of a place before this one, or of this one
  before_or_here : (k : ℕ) → k < i + 1 → (k < i) ⊎ (k ≡ i)
  before_or_here k less = by_test (nat_lt k i) refl
    where
      by_test : (b : Bool) → nat_lt k i ≡ b → (k < i) ⊎ (k ≡ i)
      by_test true h = inl (grind (arith, nat_tests))
      by_test false h = inr (let no : ¬ (k < i) = grind (arith, nat_tests) in omega (arith, less, no))

  this : (d : Aim) → bit_at found bits (get_or aims i d) ≡ bit_at found bits a
  this d = ap (bit_at found bits) (get_or_default aims i d e within)

  none_more : IsEarliest found bits aims i None → bit_at found bits a ≡ None → IsEarliest found bits aims (i + 1) None
  none_more so_far none k d less = by_place (before_or_here k less)
    where
      by_place : (k < i) ⊎ (k ≡ i) → bit_at found bits (get_or aims k d) ≡ None
      by_place (inl before) = so_far k d before
      by_place (inr here) = ap (λ (j : ℕ). bit_at found bits (get_or aims j d)) here ∙ this d ∙ none

  first_here : (bit : ℕ) → IsEarliest found bits aims i None → bit_at found bits a ≡ Some bit →
      IsFirstOf found bits aims (i + 1) i bit
  first_here bit so_far some = record {
    within = omega arith;
    here = λ d. this d ∙ some;
    first = λ k at d less holds. by_place k at d holds (before_or_here k less);
  }
    where
      by_place : (k at : ℕ) (d : Aim) → bit_at found bits (get_or aims k d) ≡ Some at → (k < i) ⊎ (k ≡ i) → bit ≤ at
      by_place k at d holds (inl before) = let no = sym (so_far k d before) ∙ holds in absurd (cc no)
      by_place k at d holds (inr here) =
          let told = sym some ∙ sym (this d) ∙ sym (ap (λ (j : ℕ). bit_at found bits (get_or aims j d)) here) ∙ holds in
          let same : bit ≡ at = cc told in omega (arith, same)

  still_first : (f : ℕ × ℕ) → IsEarliest found bits aims i (Some f) → bit_at found bits a ≡ None →
      IsEarliest found bits aims (i + 1) (Some f)
  still_first f so_far none =
      let low = so_far.within in
      record {
        within = omega (arith, low);
        here = so_far.here;
        first = λ k at d less holds. by_place k at d holds (before_or_here k less);
      }
    where
      by_place : (k at : ℕ) (d : Aim) → bit_at found bits (get_or aims k d) ≡ Some at → (k < i) ⊎ (k ≡ i) → f.1 ≤ at
      by_place k at d holds (inl before) = so_far.first k at d before holds
      by_place k at d holds (inr here) =
          let no = sym none ∙ sym (this d) ∙ sym (ap (λ (j : ℕ). bit_at found bits (get_or aims j d)) here) ∙ holds in
          absurd (cc no)

  one_of_both : (f : ℕ × ℕ) (bit : ℕ) → IsEarliest found bits aims i (Some f) → bit_at found bits a ≡ Some bit →
      IsEarliest found bits aims (i + 1) (earlier (Some f) i (Some bit))
  one_of_both f bit so_far some = by_test (nat_lt bit (f.1)) refl
    where
      at_last : (k at : ℕ) (d : Aim) → bit_at found bits (get_or aims k d) ≡ Some at → k ≡ i → at ≡ bit
      at_last k at d holds here =
          let told = sym holds ∙ ap (λ (j : ℕ). bit_at found bits (get_or aims j d)) here ∙ this d ∙ some in cc told

      sooner : bit < f.1 → (k at : ℕ) (d : Aim) → bit_at found bits (get_or aims k d) ≡ Some at →
          (k < i) ⊎ (k ≡ i) → bit ≤ at
      sooner less k at d holds (inl before) = let low = so_far.first k at d before holds in omega (arith, low, less)
      sooner less k at d holds (inr here) = let same = at_last k at d holds here in omega (arith, same)

      later : f.1 ≤ bit → (k at : ℕ) (d : Aim) → bit_at found bits (get_or aims k d) ≡ Some at →
          (k < i) ⊎ (k ≡ i) → f.1 ≤ at
      later low k at d holds (inl before) = so_far.first k at d before holds
      later low k at d holds (inr here) = let same = at_last k at d holds here in omega (arith, same, low)

      by_test : (t : Bool) → nat_lt bit (f.1) ≡ t →
          IsEarliest found bits aims (i + 1) (if t then Some (i, bit) else Some f)
      by_test true h = record {
        within = omega arith;
        here = λ d. this d ∙ some;
        first = λ k at d less holds.
            (let low : bit < f.1 = grind (arith, nat_tests) in sooner low k at d holds (before_or_here k less));
      }
      by_test false h =
          let low = so_far.within in
          record {
            within = omega (arith, low);
            here = so_far.here;
            first = λ k at d less holds.
                (let high : f.1 ≤ bit = grind (arith, nat_tests) in later high k at d holds (before_or_here k less));
          }

  pub earliest_more : (first : Option (ℕ × ℕ)) (b : Option ℕ) → IsEarliest found bits aims i first →
      b ≡ bit_at found bits a → IsEarliest found bits aims (i + 1) (earlier first i b)
  earliest_more None None so_far is = none_more so_far (sym is)
  earliest_more None (Some bit) so_far is = first_here bit so_far (sym is)
  earliest_more (Some f) None so_far is = still_first f so_far (sym is)
  earliest_more (Some f) (Some bit) so_far is = one_of_both f bit so_far (sym is)
