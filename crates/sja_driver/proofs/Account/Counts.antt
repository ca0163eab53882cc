-- Where each item was taken in time, as many were taken as given.
use Rattle.std.proofs.Common.{◌≡◌, ℕ, zero, suc, ◌+◌, ◌<◌, ◌≤◌, Bool, true, false, List, [], ◌∷◌, ◌++◌, length, map}
use Rattle.std.proofs.Common.{refl, sym, ap, ap₂, ◌∙◌, arith, inl, inr}
use Rattle.std.specs.Prelude.{◌==◌, if◌then◌else◌}
use Rattle.std.proofs.lemmas.Bool.{cases_eq, eq-eqb, ne_eqb}
use Rattle.std.proofs.lemmas.List.{length-append, length-map}
use Rattle.sja_journal.specs.declared.entry.Entry.{Entry}
use Rattle.lemmas.specs.Gathering.{gathered}
use Rattle.sja_journal.specs.Places.{JournalPlace, first_place, past, Placed, placed_from}
use Rattle.sja_journal.specs.Parts.{in_part}
use Rattle.sja_journal.specs.Carried.{taken_in, taken_of}
use Rattle.sja_driver.specs.TypedActs.{TypedAct, opens_by, given_in, section_from}
use Rattle.sja_driver.specs.Timing.{Timed, timed, given_when, taken_when}

-- ---- weights with labels

record Weighed : Type 0 where
  label : ℕ
  weight : ℕ

-- the weight of one label, and of all
abbrev one_label : ℕ → Weighed → ℕ
one_label a x = if x.label == a then x.weight else 0

abbrev at_label : List Weighed → ℕ → ℕ
at_label [] a = 0
at_label (x ∷ xs) a = one_label a x + at_label xs a

abbrev weight_of : List Weighed → ℕ
weight_of [] = 0
weight_of (x ∷ xs) = x.weight + weight_of xs

-- a number above all labels
abbrev top_of : List Weighed → ℕ
top_of [] = 0
top_of (x ∷ xs) = x.label + 1 + top_of xs

abbrev below : ℕ → (ℕ → ℕ) → ℕ
below zero f = 0
below (suc n) f = below n f + f n

below_same : (n : ℕ) (f g : ℕ → ℕ) → ((a : ℕ) → f a ≡ g a) → below n f ≡ below n g
below_same zero f g h = refl
below_same (suc n) f g h = ap₂ (λ x y. x + y) (below_same n f g h) (h n)

below_plus : (n : ℕ) (f g : ℕ → ℕ) → below n (λ a. f a + g a) ≡ below n f + below n g
below_plus zero f g = refl
below_plus (suc n) f g = let h = below_plus n f g in omega (arith, h)

below_zero : (n : ℕ) → below n (λ a. 0) ≡ 0
below_zero zero = refl
below_zero (suc n) = let h = below_zero n in omega (arith, h)

label_here : (x : Weighed) (a : ℕ) → x.label ≡ a → one_label a x ≡ x.weight
label_here x a e = ap (λ (b : Bool). if b then x.weight else 0) (eq-eqb x.label a e)

label_else : (x : Weighed) (a : ℕ) → (x.label ≡ a → ⊥) → one_label a x ≡ 0
label_else x a n = ap (λ (b : Bool). if b then x.weight else 0) (ne_eqb x.label a n)

below_none : (n : ℕ) (x : Weighed) → n ≤ x.label → below n (λ a. one_label a x) ≡ 0
below_none zero x h = refl
below_none (suc n) x h =
    let rest = below_none n x (omega (arith, h)) in
    let here = label_else x n (λ q. omega (arith, h, q)) in omega (arith, rest, here)

below_one : (n : ℕ) (x : Weighed) → x.label < n → below n (λ a. one_label a x) ≡ x.weight
below_one zero x h = absurd (omega (arith, h))
below_one (suc n) x h = elim (cases_eq x.label n) [
  | inl q ↦ let here = label_here x n q in let rest = below_none n x (omega (arith, q)) in omega (arith, here, rest)
  | inr m ↦ let here = label_else x n m in let rest = below_one n x (omega (arith, h, m)) in omega (arith, here, rest)
]

all_below : (n : ℕ) (xs : List Weighed) → top_of xs ≤ n → below n (at_label xs) ≡ weight_of xs
all_below n [] h = below_zero n
all_below n (x ∷ xs) h =
    let both = below_plus n (λ a. one_label a x) (at_label xs) in
    let one = below_one n x (omega (arith, h)) in
    let rest = all_below n xs (omega (arith, h)) in omega (arith, both, one, rest)

same_weight : (xs ys : List Weighed) → ((a : ℕ) → at_label xs a ≡ at_label ys a) → weight_of xs ≡ weight_of ys
same_weight xs ys h =
    sym (all_below (top_of xs + top_of ys) xs (omega arith))
    ∙ below_same (top_of xs + top_of ys) (at_label xs) (at_label ys) h
    ∙ all_below (top_of xs + top_of ys) ys (omega arith)

-- ---- what was given

abbrev act_weights : ℕ → List TypedAct → List Weighed
act_weights n [] = []
act_weights n (d ∷ ds) = (record { label = n + opens_by d; weight = length d.gave }) ∷ act_weights (n + opens_by d) ds

acts_weigh : (n : ℕ) (ds : List TypedAct) → weight_of (act_weights n ds) ≡ length (given_in ds)
acts_weigh n [] = refl
acts_weigh n (d ∷ ds) = ap (λ m. length d.gave + m) (acts_weigh (n + opens_by d) ds)
    ∙ sym (length-append d.gave (given_in ds))

abbrev act_times : TypedAct → List Timed
act_times d = map (timed d.bits) d.gave

acts_label : (n : ℕ) (ds : List TypedAct) (a : ℕ) →
    at_label (act_weights n ds) a ≡ length (gathered act_times (section_from opens_by n ds a))
acts_label n [] a = refl
acts_label n (d ∷ ds) a = one (acts_label (n + opens_by d) ds a) ((n + opens_by d) == a)
  where
    one : at_label (act_weights (n + opens_by d) ds) a ≡ length
        (gathered act_times (section_from opens_by (n + opens_by d) ds a)) → (b : Bool) →
        (if b then length d.gave else 0) + at_label (act_weights (n + opens_by d) ds) a
        ≡ length (gathered act_times ((if b then d ∷ [] else []) ++ section_from opens_by (n + opens_by d) ds a))
    one r true =
        let both = length-append (act_times d) (gathered act_times (section_from opens_by (n + opens_by d) ds a)) in
        let many = length-map d.gave (timed d.bits) in omega (arith, both, many, r)
    one r false = omega (arith, r)

-- ---- what was taken

abbrev entry_weights : JournalPlace → List Entry → List Weighed
entry_weights p [] = []
entry_weights p (e ∷ es) = (record { label = (past p e).activation; weight = length (taken_in e) }) ∷ entry_weights
    (past p e) es

entries_weigh : (p : JournalPlace) (es : List Entry) → weight_of (entry_weights p es) ≡ length (taken_of es)
entries_weigh p [] = refl
entries_weigh p (e ∷ es) = ap (λ m. length (taken_in e) + m) (entries_weigh (past p e) es)
    ∙ sym (length-append (taken_in e) (taken_of es))

abbrev entry_times : Placed → List Timed
entry_times q = map (timed q.before.bits) (taken_in q.entry)

entries_label : (p : JournalPlace) (es : List Entry) (a : ℕ) →
    at_label (entry_weights p es) a ≡ length (gathered (in_part entry_times a) (placed_from p es))
entries_label p [] a = refl
entries_label p (e ∷ es) a = one (entries_label (past p e) es a) ((past p e).activation == a)
  where
    one : at_label (entry_weights (past p e) es) a ≡ length
        (gathered (in_part entry_times a) (placed_from (past p e) es)) → (b : Bool) →
        (if b then length (taken_in e) else 0) + at_label (entry_weights (past p e) es) a
        ≡ length ((if b then map (timed p.bits) (taken_in e) else []) ++ gathered (in_part entry_times a)
        (placed_from (past p e) es))
    one r true =
        let both = length-append (map (timed p.bits) (taken_in e))
        (gathered (in_part entry_times a) (placed_from (past p e) es)) in
        let many = length-map (taken_in e) (timed p.bits) in omega (arith, both, many, r)
    one r false = omega (arith, r)

-- ---- both

pub as_many : (acts : List TypedAct) (j : List Entry) → ((a : ℕ) → given_when acts a ≡ taken_when j a) →
    length (taken_of j) ≡ length (given_in acts)
as_many acts j h =
    sym (entries_weigh first_place j)
    ∙ sym (same_weight (act_weights 0 acts) (entry_weights first_place j)
    (λ a. acts_label 0 acts a ∙ ap (λ l. length l) (h a) ∙ sym (entries_label first_place j a)))
    ∙ acts_weigh 0 acts
