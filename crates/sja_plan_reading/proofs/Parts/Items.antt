-- Texts of strikes that may name a place, and the strikes by bits among what they say.
use Rattle.std.proofs.Common.{◌≡◌, ◌≤◌, ◌+◌, ◌<◌, ◌⊎◌, inl, inr, ℕ, zero, suc, Bool, true, false, Option}
use Rattle.std.proofs.Common.{List, [], ◌∷◌, ◌++◌, length, All, arith}
use Rattle.std.proofs.Common.{sym, subst}
use Rattle.std.specs.List.{AllZip}
use Rattle.std.proofs.lemmas.List.Sums.{sum_by-cons}
use Rattle.sja_steps.specs.declared.strike.Strike.{Strike}
use Rattle.sja_plan_reading.specs.Document.{DocumentValue}
use Rattle.sja_plan_reading.specs.Words.{Text, words}
use Rattle.sja_plan_reading.specs.StrikeTexts.{SaysStrike, count_of, strikes_in}
use Rattle.sja_plan.specs.Plan.{PlanValue, IsStrikeOn, times_in}
use Rattle.sja_plan_reading.specs.PlacedTexts.{SaysItem, IsPlacedOf, IsNumbered, IsFirst, bits_in, placed_from}
use Rattle.sja_plan_reading.specs.PlaceNames.{place_of_word, place_of_words}
use Rattle.sja_plan_reading.specs.PlacedPlans.{has_places, SaysPlacedPlan, IsPlacedFault}
use Rattle.sja_plan_reading.specs.Texts.{IsFirstBad}
use Rattle.sja_plan_reading.specs.Checks.{SaysPlan}
use Rattle.sja_plan_reading.specs.Faults.{IsDocumentFault}
use Rattle.sja_plan_reading.specs.Inside.Views.{IsOther}
use Rattle.sja_plan.specs.declared.place.Place.{Place}
use Rattle.sja_plan.specs.declared.placed_strike.PlacedStrike.{PlacedStrike}
use Rattle.sja_plan_reading.specs.declared.plan_fault.PlanFault.{PlanFault}
use Rattle.sja_plan_reading.specs.declared.plan_fault.PlanFault.TheVariants.{TooLong, NotText, Toml, Key, Version, Bits}
use Rattle.sja_plan_reading.specs.declared.plan_fault.PlanFault.TheVariants.{NodeCount, StepCount, Step, TurnCount}
use Rattle.sja_plan_reading.specs.declared.plan_fault.PlanFault.TheVariants.{Turn, StrikeCount, Strike as BadStrike}
use Rattle.sja_plan_reading.specs.declared.plan_fault.PlanFault.TheVariants.{Memory}
use Rattle.sja_plan_reading.specs.declared.strike_item.StrikeItem.{StrikeItem}
use Rattle.sja_plan_reading.specs.declared.strike_item.StrikeItem.TheVariants.{AtBits, AtPlace}
use Rattle.sja_plan.specs.declared.struck_frames.StruckFrames.{StruckFrames}
use Rattle.sja_plan.specs.declared.struck_frames.StruckFrames.TheVariants.{Numbered, First}
use Rattle.sja_plan_reading.proofs.PlanLimits.WithinLimits.{strike_node, count_is_times}

-- ---- the strikes by bits keep the limits

pub bits_are_on : (places : Bool) (nodes : ℕ) (texts : List Text) (items : List StrikeItem) →
    AllZip (SaysItem places nodes) texts items → All (IsStrikeOn nodes) (bits_in items)
bits_are_on places nodes [] [] z k d w = absurd (omega arith)
bits_are_on places nodes [] (y ∷ ys) z k d w = absurd z
bits_are_on places nodes (x ∷ xs) [] z k d w = absurd z
bits_are_on places nodes (x ∷ xs) (AtBits s ∷ ys) z zero d w = strike_node nodes (words x) s z.0
bits_are_on places nodes (x ∷ xs) (AtBits s ∷ ys) z (suc k) d w =
    bits_are_on places nodes xs ys z.1 k d (omega arith)
bits_are_on places nodes (x ∷ xs) (AtPlace n f p ∷ ys) z k d w = bits_are_on places nodes xs ys z.1 k d w

pub bits_are_few : (places : Bool) (nodes : ℕ) (texts : List Text) (items : List StrikeItem) →
    AllZip (SaysItem places nodes) texts items → times_in (bits_in items) ≤ strikes_in texts
bits_are_few places nodes [] [] z = omega arith
bits_are_few places nodes [] (y ∷ ys) z = absurd z
bits_are_few places nodes (x ∷ xs) [] z = absurd z
bits_are_few places nodes (x ∷ xs) (AtBits s ∷ ys) z =
    let one = sum_by-cons count_of x xs in
    let same = count_is_times nodes (words x) s z.0 in
    let more = bits_are_few places nodes xs ys z.1 in
    let other = sum_by-cons (λ (t : Strike). t.times) s (bits_in ys) in
    omega (arith, one, same, more, other)
bits_are_few places nodes (x ∷ xs) (AtPlace n f p ∷ ys) z =
    let one = sum_by-cons count_of x xs in
    let more = bits_are_few places nodes xs ys z.1 in
    omega (arith, one, more)

-- what holds of all that texts of strikes by bits say holds of them
pub bits_say : (places : Bool) (nodes : ℕ) (texts : List Text) (items : List StrikeItem) (P : Strike → Type 0) →
    AllZip (SaysItem places nodes) texts items → ((text : Text) (s : Strike) → SaysStrike nodes text s → P s) →
    All P (bits_in items)
bits_say places nodes [] [] P z holds k d w = absurd (omega arith)
bits_say places nodes [] (y ∷ ys) P z holds k d w = absurd z
bits_say places nodes (x ∷ xs) [] P z holds k d w = absurd z
bits_say places nodes (x ∷ xs) (AtBits s ∷ ys) P z holds zero d w = holds x s z.0
bits_say places nodes (x ∷ xs) (AtBits s ∷ ys) P z holds (suc k) d w =
    bits_say places nodes xs ys P z.1 holds k d (omega arith)
bits_say places nodes (x ∷ xs) (AtPlace n f p ∷ ys) P z holds k d w = bits_say places nodes xs ys P z.1 holds k d w

-- ---- the strikes by place are at nodes of the plan

abbrev pub IsOnOneOf : ℕ → PlacedStrike → Type 0
IsOnOneOf nodes s = s.node < nodes

numbered_node : (nodes : ℕ) (k n : Text) (named : Option Place) (node : ℕ) (frames : StruckFrames) (place : Place) →
    IsNumbered nodes k n named (AtPlace node frames place) → node < nodes
numbered_node nodes k n named node (Numbered number) place h = h.0.1
numbered_node nodes k n named node (First times) place h = absurd h

first_node : (nodes : ℕ) (k t : Text) (named : Option Place) (node : ℕ) (frames : StruckFrames) (place : Place) →
    IsFirst nodes k t named (AtPlace node frames place) → node < nodes
first_node nodes k t named node (First times) place h = h.0.1
first_node nodes k t named node (Numbered number) place h = absurd h

placed_node : (nodes : ℕ) (ws : List Text) (node : ℕ) (frames : StruckFrames) (place : Place) →
    IsPlacedOf nodes ws (AtPlace node frames place) → node < nodes
placed_node nodes [] node frames place h = absurd h
placed_node nodes (k ∷ []) node frames place h = absurd h
placed_node nodes (k ∷ a ∷ []) node frames place h = absurd h
placed_node nodes (k ∷ a ∷ t ∷ []) node frames place h =
    first_node nodes k t (place_of_word a) node frames place h
placed_node nodes (k ∷ a ∷ b ∷ t ∷ []) node frames place (inl h) =
    numbered_node nodes k b (place_of_word t) node frames place h.1
placed_node nodes (k ∷ a ∷ b ∷ t ∷ []) node frames place (inr h) =
    first_node nodes k t (place_of_words a b) node frames place h.1
placed_node nodes (k ∷ a ∷ n ∷ b ∷ e ∷ []) node frames place h =
    numbered_node nodes k n (place_of_words b e) node frames place h.1
placed_node nodes (k ∷ a ∷ n ∷ b ∷ e ∷ x ∷ ws) node frames place h = absurd h

pub placed_are_on : (places : Bool) (nodes number : ℕ) (texts : List Text) (items : List StrikeItem) →
    AllZip (SaysItem places nodes) texts items → All (IsOnOneOf nodes) (placed_from number items)
placed_are_on places nodes number [] [] z k d w = absurd (omega arith)
placed_are_on places nodes number [] (y ∷ ys) z k d w = absurd z
placed_are_on places nodes number (x ∷ xs) [] z k d w = absurd z
placed_are_on places nodes number (x ∷ xs) (AtBits s ∷ ys) z k d w =
    placed_are_on places nodes (number + 1) xs ys z.1 k d w
placed_are_on places nodes number (x ∷ xs) (AtPlace n f p ∷ ys) z zero d w = placed_node nodes (words x) n f p z.0.2
placed_are_on places nodes number (x ∷ xs) (AtPlace n f p ∷ ys) z (suc k) d w =
    placed_are_on places nodes (number + 1) xs ys z.1 k d (omega arith)

-- ---- where no place may be named

pub zip_bits : (nodes : ℕ) (texts : List Text) (items : List StrikeItem) → AllZip (SaysItem false nodes) texts items →
    AllZip (SaysStrike nodes) texts (bits_in items)
zip_bits nodes [] [] z = tt
zip_bits nodes [] (y ∷ ys) z = absurd z
zip_bits nodes (x ∷ xs) [] z = absurd z
zip_bits nodes (x ∷ xs) (AtBits s ∷ ys) z = (z.0, zip_bits nodes xs ys z.1)
zip_bits nodes (x ∷ xs) (AtPlace n f p ∷ ys) z = let no : false ≡ true = z.0.0 in absurd (cc no)

pub plain_plan : (d : DocumentValue) (p : PlanValue) (placed : List PlacedStrike) → SaysPlacedPlan false d p placed →
    SaysPlan d p
plain_plan d p placed h = record {
  version = h.others.version;
  bits = h.others.bits;
  node_count = h.others.node_count;
  step_counts = h.others.step_counts;
  steps = h.others.steps;
  turn_count = h.others.turn_count;
  turns = h.others.turns;
  strike_count = h.strike_count;
  strikes = subst (AllZip (SaysStrike (length d.nodes)) d.faults) (sym h.at_bits)
      (zip_bits (length d.nodes) d.faults h.items h.strikes);
}

bad_plain : (nodes : ℕ) (texts : List Text) (number : ℕ) → IsFirstBad (SaysItem false nodes) texts number →
    IsFirstBad (SaysStrike nodes) texts number
bad_plain nodes texts number h = record {
  before = h.before;
  text = h.text;
  after = h.after;
  whole = h.whole;
  number_is = h.number_is;
  values = bits_in h.values;
  good = zip_bits nodes h.before h.values h.good;
  bad = λ s. h.bad (AtBits s);
}

pub plain_fault : (d : DocumentValue) (f : PlanFault) → IsPlacedFault false d f → IsDocumentFault d f
plain_fault d TooLong h = h
plain_fault d NotText h = h
plain_fault d Toml h = h
plain_fault d Key h = h
plain_fault d Memory h = h
plain_fault d Version h = h
plain_fault d Bits h = h
plain_fault d NodeCount h = h
plain_fault d StepCount h = h
plain_fault d (Step node number) h = h
plain_fault d TurnCount h = h
plain_fault d (Turn number) h = h
plain_fault d StrikeCount h = h
plain_fault d (BadStrike number) h = (h.0, bad_plain (length d.nodes) d.faults number h.1)

-- ---- a fault of something else

pub other_fault : (may : Bool) (d : DocumentValue) (f : PlanFault) → IsOther f → IsDocumentFault d f →
    IsPlacedFault may d f
other_fault may d TooLong o h = h
other_fault may d NotText o h = h
other_fault may d Toml o h = h
other_fault may d Key o h = h
other_fault may d Memory o h = h
other_fault may d Version o h = h
other_fault may d Bits o h = h
other_fault may d NodeCount o h = h
other_fault may d StepCount o h = h
other_fault may d (Step node number) o h = h
other_fault may d TurnCount o h = h
other_fault may d (Turn number) o h = h
other_fault may d StrikeCount o h = h
other_fault may d (BadStrike number) o h = absurd o
