-- A plan whose strikes by place were struck has texts.
use Rattle.std.proofs.Common.{◌≡◌, ◌<◌, ◌≤◌, ℕ, zero, suc, Bool, true, false, nat_lt, Option, Some, None, List, [], ◌∷◌}
use Rattle.std.proofs.Common.{◌++◌, length, All, refl, sym, ap, ◌∙◌, subst, arith}
use Rattle.std.specs.Prelude.{if◌then◌else◌, option_and_then}
use Rattle.std.specs.List.{filter}
use Rattle.std.proofs.lemmas.Bool.Decides.{nat_tests}
use Rattle.std.proofs.lemmas.List.Elements.{All-cons, All-head, All-nil, All-push, All-tail, All-weaker}
use Rattle.sja_plan_reading.specs.Words.{greatest}
use Rattle.sja_plan.specs.Plan.{PlanValue}
use Rattle.sja_plan.specs.Struck.{one_strike}
use Rattle.sja_plan_reading.specs.PlacedPlans.{ArePlacedPlan}
use Rattle.sja_plan.specs.declared.placed_strike.PlacedStrike.{PlacedStrike}
use Rattle.sja_plan.proofs.PlanLimits.ByVersion.{bits_most}
use Rattle.sja_plan_reading.proofs.Parts.Items.{bits_say, placed_are_on}
use Rattle.sja_plan_text.specs.HasTexts.{HasStrikeText, HasTexts}
use Rattle.sja_plan_text.proofs.Documents.ReadPlans.{said_has_texts}
use Rattle.sja_plan_text.proofs.Spelling.Strikes.{has_strike_text}
use Rattle.text_frames.specs.FrameStories.{NodeStory}
use Rattle.sja_placed_strikes.specs.declared.aim.Aim.{Aim}
use Rattle.sja_placed_strikes.specs.FramePlaces.{bit_of}
use Rattle.sja_placed_strikes.specs.Aims.{aims_in, bit_at, counts, frame_at, number_of, within}
use Rattle.sja_placed_strikes.specs.PlanRead.{IsRunPlan}
use Rattle.sja_placed_strikes.specs.Resolving.{ComesTo}
use Rattle.sja_placed_strikes.proofs.Steps.{IsBelow, all_below}

-- ---- a place is at a bit of the plan

within_less : (bits b : ℕ) (o : Option ℕ) → within bits o ≡ Some b → b < bits
within_less bits b None e = absurd (cc e)
within_less bits b (Some x) e = by_test (nat_lt x bits) refl
  where
    by_test : (t : Bool) → nat_lt x bits ≡ t → b < bits
    by_test true h =
        let told : Some x ≡ Some b = ap (λ (t : Bool). if t then Some x else None) (sym h) ∙ e in
        let same : x ≡ b = cc told in
        let less : x < bits = grind (arith, nat_tests) in omega (arith, same, less)
    by_test false h =
        let told : None ≡ Some b = ap (λ (t : Bool). if t then Some x else None) (sym h) ∙ e in absurd (cc told)

of_frame : (bits b : ℕ) (a : Aim) (o : Option NodeStory) →
    option_and_then (λ (s : NodeStory). within bits (bit_of s.story a.place)) o ≡ Some b → b < bits
of_frame bits b a None e = absurd (cc e)
of_frame bits b a (Some s) e = within_less bits b (bit_of s.story a.place) e

pub bit_less : (found : List NodeStory) (bits b : ℕ) (a : Aim) → bit_at found bits a ≡ Some b → b < bits
bit_less found bits b a e = of_frame bits b a (frame_at (filter (counts a.node a.frame) found) (number_of a.frame)) e

-- ---- of the plan that is come to

without : {A : Type 0} (P : A → Type 0) (before after : List A) (a : A) → All P (before ++ a ∷ after) →
    P a × All P (before ++ after)
without P [] after a all = (All-head P a after all, All-tail P a after all)
without P (b ∷ before) after a all =
    let rest = without P before after a (All-tail P b (before ++ a ∷ after) all) in
    (rest.0, All-cons P b (before ++ after) (All-head P b (before ++ a ∷ after) all) rest.1)

record Keeps (p q : PlanValue) (left : List Aim) : Type 0 where
  pub bits : q.bits ≡ p.bits
  pub texts : HasTexts q
  pub below : All (IsBelow 9) left

keeps : (p : PlanValue) (aims : List Aim) (q : PlanValue) (left : List Aim) → p.bits ≤ greatest → HasTexts p →
    All (IsBelow 9) aims → ComesTo p aims q left → Keeps p q left
keeps p aims q left few has below ComesTo.begun = record { bits = refl; texts = has; below = below }
keeps p aims q left few has below (ComesTo.struck before after a bit comes first) =
    let k = keeps p aims _ (before ++ a ∷ after) few has below comes in
    let both = without (IsBelow 9) before after a k.below in
    let same = k.bits in
    let less = bit_less first.found _ bit a first.here in
    let node = both.0 in
    let text : HasStrikeText (one_strike a.node bit) = record {
      node = omega (arith, node);
      bit = omega (arith, same, less, few);
      every = omega arith;
      times = omega arith;
    } in
    record {
      bits = k.bits;
      texts = record {
        step_counts = k.texts.step_counts;
        steps = k.texts.steps;
        turns = k.texts.turns;
        strikes = All-push HasStrikeText _ (one_strike a.node bit) k.texts.strikes text;
      };
      below = both.1;
    }

-- ---- of the plan that was read

read_has : (bytes : List ℕ) (q : PlanValue) (placed : List PlacedStrike) → ArePlacedPlan bytes q placed → HasTexts q
read_has bytes q placed (d, says, h) =
    let others = said_has_texts (record d { faults = [] }) (record q { strikes = [] }) h.others in
    record {
      step_counts = others.step_counts;
      steps = others.steps;
      turns = others.turns;
      strikes = subst (All HasStrikeText) (sym h.at_bits) (bits_say _ _ d.faults h.items HasStrikeText h.strikes
          (λ text s said. (has_strike_text (length d.nodes) text s said).1));
    }

pub run_has_texts : (bytes : List ℕ) (p : PlanValue) → IsRunPlan bytes p → HasTexts p
run_has_texts bytes p (q, placed, (d, says, h), resolved) =
    let bits = h.others.bits.2 in
    let most = bits_most q.version in
    let nodes = h.others.node_count.1 in
    let on = placed_are_on _ (length d.nodes) 1 d.faults h.items h.strikes in
    let below : All (λ (s : PlacedStrike). s.node < 9) placed =
    subst (All (λ (s : PlacedStrike). s.node < 9)) (sym h.at_places)
    (All-weaker (λ (s : PlacedStrike). s.node < length d.nodes) (λ (s : PlacedStrike). s.node < 9)
    (λ s low. omega (arith, low, nodes)) _ on) in
    (keeps q (aims_in placed) p [] (omega (arith, bits, most)) (read_has bytes q placed (d, says, h))
    (all_below 9 placed below) resolved).texts
