-- A journal has at most one verdict for each frame that its node received, so at most one in 42 bits.
use Rattle.std.proofs.Common.{◌≡◌, ◌≢◌, ◌*◌, ◌≤◌, ◌==◌, ℕ, cond, List, [], ◌∷◌, length, map, sym, ap, ◌∙◌}
use Rattle.std.proofs.Common.{arith, inl, inr}
use Rattle.std.specs.Prelude.{Option}
use Rattle.std.proofs.lemmas.Bool.{cases_eq, eq-eqb, ne_eqb}
use Rattle.std.proofs.lemmas.List.{length-append, length-map}
use Rattle.can_frame.specs.declared.filter.Filter.{Filter}
use Rattle.lemmas.specs.Gathering.{gathered, total}
use Rattle.lemmas.specs.Picking.{Picks}
use Rattle.lemmas.specs.Picking.Picks.{nothing, picked, left}
use Rattle.lemmas.proofs.Counts.{is_it, one_is, none_is, no_longer}
use Rattle.lemmas.proofs.Gathered.{total_append}
use Rattle.can_node_rules.proofs.CutRecords.ReceivedBits.{received_few}
use Rattle.sja_journal.specs.NodeWords.{Count, ReceivedFrame, received}
use Rattle.sja_journal.specs.declared.entry.Entry.{Entry}
use Rattle.sja_journal.specs.Judged.{Judged, judged_at}
use Rattle.sja_journal.specs.Parts.{in_part}
use Rattle.sja_journal.specs.Places.{Placed, activation_of, placed, place_of}
use Rattle.sja_journal.specs.Records.{record_of}
use Rattle.sja_journal.specs.Verdicts.{IsAccepted, IsOn, IsLawful}
use Rattle.sja_journal.proofs.JournalEntries.Entering.{record_counted}

-- ---- the activations of the verdicts

each_one : (a b : ℕ) → b ≡ a → (l : List Judged) → total (is_it a) (map (λ (v : Judged). b) l) ≡ length l
each_one a b e [] = omega arith
each_one a b e (v ∷ l) = let n = each_one a b e l in let one = one_is a b e in omega (arith, n, one)

each_none : (a b : ℕ) → b ≢ a → (l : List Judged) → total (is_it a) (map (λ (v : Judged). b) l) ≡ 0
each_none a b n [] = omega arith
each_none a b n (v ∷ l) = let m = each_none a b n l in let none = none_is a b n in omega (arith, m, none)

in_one : (a b : ℕ) (l : List Judged) → total (is_it a) (map (λ (v : Judged). b) l) ≡ length (cond (b == a) l [])
in_one a b l = elim (cases_eq b a) [
  | inl e ↦ each_one a b e l ∙ sym (ap (λ t. length (cond t l [])) (eq-eqb b a e))
  | inr n ↦ each_none a b n l ∙ sym (ap (λ t. length (cond t l [])) (ne_eqb b a n))
]

abbrev activations : List Placed → List ℕ
activations = gathered (λ (q : Placed). map (λ (v : Judged). activation_of q) (judged_at q))

in_parts : (a : ℕ) (qs : List Placed) →
    total (is_it a) (activations qs) ≡ length (gathered (in_part judged_at a) qs)
in_parts a [] = omega arith
in_parts a (q ∷ qs) =
    let n = in_parts a qs in let one = in_one a (activation_of q) (judged_at q) in
    let split = total_append (is_it a) (map (λ (v : Judged). activation_of q) (judged_at q)) (activations qs) in
    let parts = length-append (cond (activation_of q == a) (judged_at q) []) (gathered (in_part judged_at a) qs) in
    omega (arith, n, one, split, parts)

as_many : (qs : List Placed) → length (activations qs) ≡ length (gathered judged_at qs)
as_many [] = omega arith
as_many (q ∷ qs) =
    let n = as_many qs in let one = length-map (judged_at q) (λ (v : Judged). activation_of q) in
    let split = length-append (map (λ (v : Judged). activation_of q) (judged_at q)) (activations qs) in
    omega (arith, n, one, split, length-append (judged_at q) (gathered judged_at qs))

-- ---- beside the frames

picked_few : {a : ℕ} {filter : Option Filter} {frames : List ReceivedFrame} {out : List Judged} →
    Picks (IsAccepted a filter) IsOn frames out →
    length out ≤ total (is_it a) (map (λ (h : ReceivedFrame). h.activation) frames)
picked_few nothing = omega arith
picked_few {a = a} (picked x y p r more) =
    let n = picked_few more in let one = one_is a x.activation p.activation in omega (arith, n, one)
picked_few (left x n more) = let m = picked_few more in omega (arith, m)

pub verdicts_few : (j : List Entry) → IsLawful j → 42 * length (gathered judged_at (placed j)) ≤ (place_of j).bits
verdicts_few j h =
    let frames = received h.found in
    let of_frames = map (λ (x : ReceivedFrame). x.activation) frames in
    let fewer = no_longer (activations (placed j)) of_frames (λ a.
    let n = in_parts a (placed j) in let m = picked_few ((h.verdicts h.found h.cut).are a) in omega (arith, n, m)) in
    let n = received_few (record_of j) h.found h.cut in let c = ap (λ (k : Count). k.bits) (record_counted j) in
    let many = length-map frames (λ (x : ReceivedFrame). x.activation) in
    omega (arith, fewer, n, c, many, as_many (placed j))
