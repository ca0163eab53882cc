-- Of a node no more activations begin than its version has.
use Rattle.std.proofs.Common.{◌≡◌, ◌≢◌, ◌+◌, ◌<◌, ◌≤◌, ℕ, zero, suc, Bool, cond, List, [], ◌∷◌}
use Rattle.std.proofs.Common.{◌++◌, refl, sym, ap, ◌∙◌, arith, inl, inr}
use Rattle.std.proofs.lemmas.Bool.{cases_lt, ne_eqb}
use Rattle.lemmas.specs.Gathering.{total}
use Rattle.lemmas.specs.Picking.{EachAfter}
use Rattle.lemmas.proofs.Gathered.{total_push}
use Rattle.sja_journal.specs.declared.up.Up.{Up}
use Rattle.sja_journal.specs.declared.up.Up.TheVariants.{Start as StartItem}
use Rattle.sja_journal.specs.Activations.{HasActivations}
use Rattle.sja_journal.specs.Carried.{taken_of}
use Rattle.sja_journal.specs.Parts.{part}
use Rattle.sja_journal.specs.Places.{place_of}
use Rattle.sja_journal.specs.Sizes.{most_activations}
use Rattle.sja_journal.proofs.Growing.Activations.{has_activations}
use Rattle.sja_journal.proofs.JournalEntries.Openings.{part_opens}
use Rattle.sja_driver.specs.TypedActs.{AreAnswered, TypedAct, FitsState, acts_of, given_in, is_active, opened_by}
use Rattle.sja_driver.specs.TypedActs.{opens_by}
use Rattle.sja_driver.specs.TypedActs.{section_from}
use Rattle.sja_driver.proofs.Step.GivenKinds.{starts_few}
use Rattle.sja_log.specs.Log.{NodeValue}
use Rattle.sja_promises.specs.Runs.{IsTrace}

-- ---- a driver opens no more

opened_few : (version : ℕ) (before acts : List TypedAct) → opened_by before ≤ most_activations version →
    EachAfter (λ b (d : TypedAct). FitsState version (is_active b) (opened_by b) d.step d.answer) before acts →
    opened_by before + opened_by acts ≤ most_activations version
opened_few version before [] few states = omega (arith, few)
opened_few version before (d ∷ acts) few states =
    let most = most_activations version in let out = is_active before in
    let one = starts_few version most out (opened_by before) d.step d.answer states.0 few (omega arith) in
    let sum = total_push opens_by before d in
    let rest = opened_few version (before ++ d ∷ []) acts (omega (arith, one, sum)) states.1 in
    omega (arith, rest, sum)

pub answered_few : (version : ℕ) (acts : List TypedAct) → AreAnswered version acts →
    opened_by acts ≤ most_activations version
answered_few version acts h =
    let few = opened_few version [] acts (omega arith) h.states in omega (arith, few)

-- ---- acts of an activation that gave something are of one that was opened

section_none : (n : ℕ) (xs : List TypedAct) (a : ℕ) → n + total opens_by xs < a → section_from opens_by n xs a ≡ []
section_none n [] a less = refl
section_none n (x ∷ xs) a less =
    let other : n + opens_by x ≢ a = λ same. omega (arith, same, less) in
    let rest = section_none (n + opens_by x) xs a (omega (arith, less)) in
    ap (λ (b : Bool). cond b (x ∷ []) [] ++ section_from opens_by (n + opens_by x) xs a)
    (ne_eqb (n + opens_by x) a other) ∙ rest

pub gave_opened : (acts : List TypedAct) (a : ℕ) → given_in (acts_of acts a) ≢ [] → a ≤ opened_by acts
gave_opened acts a gave = elim (cases_lt (opened_by acts) a) [
  | inl less ↦ absurd (gave (ap given_in (section_none 0 acts a (omega (arith, less)))))
  | inr more ↦ more
]

-- ---- a node of a log

begun_opened : (version : ℕ) (node : NodeValue) (acts : List TypedAct) → IsTrace version node acts →
    (place_of node.journal).activation ≤ opened_by acts
begun_opened version node acts h = by (place_of node.journal).activation refl
  where
    some : {u : Up} {us : List Up} → [] ≢ u ∷ us
    some same = cc

    by : (a : ℕ) → (place_of node.journal).activation ≡ a → a ≤ opened_by acts
    by zero is = omega arith
    by (suc a) is =
        let opens = part_opens node.journal (suc a) (omega arith) (omega (arith, is)) in
        let taken : taken_of (part node.journal (suc a)) ≡ StartItem opens.config ∷ taken_of opens.rest =
        ap taken_of opens.opens in
        gave_opened acts (suc a) (λ none. some (sym none ∙ h.given (suc a) ∙ taken))

pub trace_has : (version : ℕ) (node : NodeValue) (acts : List TypedAct) → IsTrace version node acts →
    HasActivations (most_activations version) node.journal
trace_has version node acts h =
    let few = answered_few version acts h.answered in let begun = begun_opened version node acts h in
    has_activations (most_activations version) node.journal (omega (arith, few, begun))
