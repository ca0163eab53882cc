-- Which links of a node have queues: that of the activation that its driver opened last, or the next one.
use Rattle.std.proofs.Common.{◌≡◌, ◌≢◌, ℕ, zero, suc, ◌+◌, ◌<◌, ◌≤◌, List, [], length, sym, ap, ◌∙◌, subst}
use Rattle.std.proofs.Common.{arith, inl, inr}
use Rattle.std.specs.Prelude.{◌-◌}
use Rattle.std.proofs.lemmas.Bool.{cases_eq, cases_lt}
use Rattle.sja_journal.specs.declared.down.Down.{Down}
use Rattle.sja_journal.specs.declared.entry.Entry.{Entry}
use Rattle.sja_journal.specs.declared.up.Up.TheVariants.{Start}
use Rattle.sja_journal.proofs.Growing.Taking.{some_none}
use Rattle.sja_journal.specs.Carried.{taken_of}
use Rattle.sja_link.specs.Deques.{Deques, Lies, up_on, IsFullUp}
use Rattle.sja_journal.specs.Lists.{Lists, OthersStand}
use Rattle.sja_link.specs.Looking.{with_gots}
use Rattle.sja_journal.specs.Parts.{part, entry_at}
use Rattle.sja_journal.specs.Places.{place_of}
use Rattle.sja_journal.proofs.JournalEntries.Entering.{of_part_later}
use Rattle.sja_journal.proofs.JournalEntries.Openings.{part_opens}
use Rattle.sja_driver.specs.TypedActs.{TypedAct, opened_by, given_in, acts_of}

-- the link of this activation has queues
abbrev pub HasQueues : Deques → ℕ → Type 0
HasQueues s a = (s.first ≤ a) × (a < s.first + length s.others)

-- on the link of each activation just that was given which these acts gave
abbrev pub HasGiven : List TypedAct → Deques → Type 0
HasGiven acts s = (a : ℕ) → 0 < a → (l : Lists) × Lies s a l × (l.given ≡ given_in (acts_of acts a))

-- so it is after items were got
pub has_given : (acts : List TypedAct) (s t : Deques) (a : ℕ) (got : List Down) → OthersStand Lies a s t →
    ((l : Lists) → Lies s a l → Lies t a (with_gots l got)) → HasGiven acts s → HasGiven acts t
has_given acts s t a got others here h b some =
    let was = h b some in
    elim (cases_eq b a) [
      | inl e ↦ (
        with_gots was.0 got,
        subst (λ n. Lies t n (with_gots was.0 got)) (sym e) (here was.0 (subst (λ n. Lies s n was.0) e was.1)),
        was.2,
      )
      | inr differ ↦ (was.0, others b differ was.0 was.1, was.2)
    ]

module _ (j : List Entry) (acts : List TypedAct) (begun : (place_of j).activation ≡ opened_by acts)
    (given : (a : ℕ) → given_in (acts_of acts a) ≡ taken_of (part j a)) where
  none_later : (a : ℕ) → opened_by acts < a → given_in (acts_of acts a) ≡ []
  none_later a later = given a ∙ ap taken_of (of_part_later entry_at j a (omega (arith, begun, later)))

  some_by_then : (a : ℕ) → 0 < a → a ≤ opened_by acts → given_in (acts_of acts a) ≢ []
  some_by_then a some most none =
      let o = part_opens j a (omega (arith, some)) (omega (arith, begun, most)) in
      some_none (Start o.config) (taken_of o.rest) (sym (ap taken_of o.opens) ∙ sym (given a) ∙ none)

  module _ (s : Deques) (h : HasGiven acts s) where
    -- where the first activations have none any more, something was given on the last that has
    first_begun : 1 < s.first → s.first ≤ opened_by acts
    first_begun more =
        let last = (s.first + length s.others) - 1 in
        let at = h last (omega (arith, more)) in
        let few = at.1.links.few in
        let many = at.1.links.many in let some : 0 < length s.others = omega (arith, many, more, few) in
        elim (cases_lt (opened_by acts) last) [
          | inl later ↦ absurd (at.1.begun more (omega (arith, more)) (at.2 ∙ none_later last later))
          | inr begun ↦ omega (arith, begun, some)
        ]

    -- so that of the last one that was opened does
    pub last_has : 0 < opened_by acts → HasQueues s (opened_by acts)
    last_has some = (
      elim (cases_lt 1 s.first) [ inl more ↦ first_begun more | inr one ↦ omega (arith, one, some) ],
      elim (cases_lt (opened_by acts) (s.first + length s.others)) [
        | inl less ↦ less
        | inr beyond ↦
            let at = h (opened_by acts) some in
            absurd (some_by_then (opened_by acts) some (omega arith)
            (sym at.2 ∙ ap (λ (l : Lists). l.given) (at.1.later beyond)))
      ],
    )

    -- and the next one does, or is the first that has none yet
    pub next_has : (s.first ≤ opened_by acts + 1) × (opened_by acts + 1 ≤ s.first + length s.others)
    next_has =
        let from = (h 1 (omega arith)).1.links.from in (
          elim (cases_lt 1 s.first) [
            | inl more ↦ let begun = first_begun more in omega (arith, begun)
            | inr one ↦ omega (arith, one)
          ],
          elim (cases_lt 0 (opened_by acts)) [
            | inl some ↦ let less = (last_has some).1 in omega (arith, less)
            | inr none ↦ omega (arith, none, from)
          ],
        )

-- nothing lies upward on a link where it does on none
pub none_up : (s : Deques) (a : ℕ) → 0 < a → ((b : ℕ) → up_on s (suc b) ≡ []) → up_on s a ≡ []
none_up s zero some none = absurd (omega (arith, some))
none_up s (suc a) some none = none a

-- a link that has queues takes an item where nothing lies upward
pub not_full : (s : Deques) (a : ℕ) → HasQueues s a → up_on s a ≡ [] → IsFullUp s a → ⊥
not_full s a has none (inl full) = let e = ap (λ l. length l) none in omega (arith, e, full)
not_full s a has none (inr (inl before)) = let from = has.0 in omega (arith, from, before)
not_full s a has none (inr (inr after)) = let less = has.1 in let beyond = after.0 in omega (arith, less, beyond)

-- and the next one, if it is there
pub next_not_full : (s : Deques) (a : ℕ) → 0 < s.first → ((b : ℕ) → up_on s (suc b) ≡ []) → s.first ≤ a →
    a ≤ s.first + length s.others → a ≤ s.starts → IsFullUp s a → ⊥
next_not_full s a some none from to there (inl full) =
    let e = ap (λ l. length l) (none_up s a (omega (arith, some, from)) none) in omega (arith, e, full)
next_not_full s a some none from to there (inr (inl before)) = omega (arith, from, before)
next_not_full s a some none from to there (inr (inr (after, inl less))) = omega (arith, there, less)
next_not_full s a some none from to there (inr (inr (after, inr (inl other)))) =
    absurd (other (omega (arith, after, to)))
next_not_full s a some none from to there (inr (inr (after, inr (inr lies)))) =
    absurd (lies (none_up s s.first some none))
