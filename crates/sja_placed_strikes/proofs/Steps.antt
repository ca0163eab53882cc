-- One strike more, on the way to a plan that has all.
use Rattle.std.proofs.Common.{◌≡◌, ◌<◌, ◌≤◌, ◌+◌, ℕ, zero, suc, Option, Some, None, List, [], ◌∷◌, ◌++◌, length, map}
use Rattle.std.proofs.Common.{take, drop, get_or, All, ◌⊎◌, inl, inr, refl, sym, ap, ◌∙◌, subst, arith}
use Rattle.std.specs.List.{remove, range_with_len}
use Rattle.std.proofs.lemmas.List.Elements.{All-append, All-take, All-drop, All-nil, All-cons, All-tail, All-head}
use Rattle.lemmas.specs.Gathering.{gathered}
use Rattle.sja_plan.specs.declared.placed_strike.PlacedStrike.{PlacedStrike}
use Rattle.sja_plan.specs.Plan.{PlanValue, times_in}
use Rattle.sja_plan.specs.Limits.{most_strikes}
use Rattle.sja_plan.specs.Struck.{struck_at}
use Rattle.text_frames.specs.FrameStories.{NodeStory}
use Rattle.sja_placed_strikes.specs.declared.aim.Aim.{Aim}
use Rattle.sja_placed_strikes.specs.declared.aimed_frame.AimedFrame.{AimedFrame}
use Rattle.sja_placed_strikes.specs.declared.place_fault.PlaceFault.{PlaceFault}
use Rattle.sja_placed_strikes.specs.declared.place_fault.PlaceFault.TheVariants.{StrikeCount, Memory}
use Rattle.sja_placed_strikes.specs.Aims.{aim_at, aims_of, aims_in, bit_at, frames_of}
use Rattle.sja_placed_strikes.specs.Resolving.{HasFrames, ComesFirst, ComesTo, HasNoPlace, IsPlaceFault, last_sof}
use Rattle.sja_placed_strikes.specs.Inside.Searching.{IsEarliest}

-- ---- the places are at nodes of the plan

abbrev pub IsBelow : ℕ → Aim → Type 0
IsBelow nodes a = a.node < nodes

of_strike : (nodes : ℕ) (s : PlacedStrike) (frames : List AimedFrame) → s.node < nodes →
    All (IsBelow nodes) (map (aim_at s) frames)
of_strike nodes s [] there = All-nil (IsBelow nodes)
of_strike nodes s (f ∷ frames) there =
    All-cons (IsBelow nodes) (aim_at s f) (map (aim_at s) frames) there (of_strike nodes s frames there)

pub all_below : (nodes : ℕ) (placed : List PlacedStrike) → All (λ (s : PlacedStrike). s.node < nodes) placed →
    All (IsBelow nodes) (aims_in placed)
all_below nodes [] there = All-nil (IsBelow nodes)
all_below nodes (s ∷ placed) there =
    let P = λ (t : PlacedStrike). t.node < nodes in
    All-append (IsBelow nodes) (aims_of s) (aims_in placed)
    (of_strike nodes s (frames_of s.frames) (All-head P s placed there))
    (all_below nodes placed (All-tail P s placed there))

pub removed_below : (nodes : ℕ) (aims : List Aim) (i : ℕ) → All (IsBelow nodes) aims →
    All (IsBelow nodes) (remove aims i)
removed_below nodes aims i there =
    All-append (IsBelow nodes) (take i aims) (drop (suc i) aims) (All-take (IsBelow nodes) i aims there)
    (All-drop (IsBelow nodes) (suc i) aims there)

-- ---- a list around one of its elements

around : {A : Type 0} (xs : List A) (i : ℕ) (d : A) → i < length xs →
    take i xs ++ get_or xs i d ∷ drop (suc i) xs ≡ xs
around [] i d within = absurd (omega (arith, within))
around (x ∷ xs) zero d within = refl
around (x ∷ xs) (suc i) d within = ap (λ l. x ∷ l) (around xs i d (omega (arith, within)))

-- ---- a strike more

pub one_struck : (p q : PlanValue) (all left : List Aim) (found : List NodeStory) (i bit : ℕ) (a : Aim) →
    ComesTo p all q left → HasFrames q found → IsEarliest found q.bits left (length left) (Some (i, bit)) →
    a ≡ get_or left i a → ComesTo p all (struck_at q a.node bit) (remove left i)
one_struck p q all left found i bit a comes run first is =
    let within = first.within in
    let whole : take i left ++ a ∷ drop (suc i) left ≡ left =
    ap (λ x. take i left ++ x ∷ drop (suc i) left) is ∙ around left i a within in
    let comes_first : ComesFirst q left a bit =
    record {
      found = found;
      run = run;
      here = ap (bit_at found q.bits) is ∙ first.here a;
      first = λ other at holds told. first.first holds.0 at other holds.1 (ap (bit_at found q.bits) holds.2 ∙ told);
    } in
    ComesTo.struck (take i left) (drop (suc i) left) a bit (subst (ComesTo p all q) (sym whole) comes)
    (subst (λ l. ComesFirst q l a bit) (sym whole) comes_first)

-- there is none
pub none_struck : (p q : PlanValue) (placed : List PlacedStrike) (left : List Aim) (found : List NodeStory)
    (item frames : ℕ) (last : Option ℕ) (d : Aim) → ComesTo p (aims_in placed) q left → 0 < length left →
    HasFrames q found → IsEarliest found q.bits left (length left) None → item ≡ (get_or left 0 d).item →
    frames ≡ length found → last ≡ last_sof found → HasNoPlace p placed item frames last
none_struck p q placed [] found item frames last d comes some run none is many sof = absurd (omega (arith, some))
none_struck p q placed (a ∷ others) found item frames last d comes some run none is many sof = record {
  plan = q;
  left = a;
  others = others;
  found = found;
  comes = comes;
  run = run;
  none = λ x holds. (ap (bit_at found q.bits) (sym holds.2) ∙ none holds.0 x holds.1);
  item_is = is;
  frames_is = many;
  last_is = sof;
}

-- there is no room for one
pub strike_fails : (p q : PlanValue) (placed : List PlacedStrike) (left : List Aim) (f : PlaceFault) →
    ComesTo p (aims_in placed) q left → 0 < length left →
    (f ≡ Memory) ⊎ ((f ≡ StrikeCount) × (most_strikes q.version ≤ times_in q.strikes)) → IsPlaceFault p placed f
strike_fails p q placed left f comes some (inl memory) = subst (IsPlaceFault p placed) (sym memory) tt
strike_fails p q placed [] f comes some (inr full) = absurd (omega (arith, some))
strike_fails p q placed (a ∷ others) f comes some (inr full) =
    subst (IsPlaceFault p placed) (sym full.0)
    (inr (record { plan = q; left = a; others = others; comes = comes; full = full.1 }))
