-- Where all that was given was taken, nothing is taken.
use Rattle.std.proofs.Common.{◌≡◌, ℕ, suc, List, [], ◌++◌, sym, ap, ◌∙◌, append_assoc, append-nil}
use Rattle.std.proofs.lemmas.List.{append_cancel_left}
use Rattle.sja_journal.specs.declared.up.Up.{Up}
use Rattle.sja_journal.specs.declared.entry.Entry.{Entry}
use Rattle.sja_journal.specs.Parts.{part}
use Rattle.sja_journal.specs.Carried.{taken_of}
use Rattle.sja_journal.specs.BitEntries.{entries_of_items, MayHaveItems}
use Rattle.sja_driver.proofs.Account.Own.{AreOwn, own_taken}
use Rattle.lemmas.proofs.Lists.{none_front}
use Rattle.sja_journal.proofs.Growing.Taking.{adds, taken_adds, no_adds}

-- what each activation has of these items, and what follows
module _ (j t : List Entry) (items : MayHaveItems j t) (given : ℕ → List Up)
    (before : (a : ℕ) → given a ≡ taken_of (part j (suc a))) where
  taken_now : (a : ℕ) → taken_of (part t (suc a)) ≡ taken_of (part j (suc a)) ++ adds j items.items (suc a)
  taken_now a = ap (λ (l : List Entry). taken_of (part l (suc a))) items.whole ∙ taken_adds j items.items (suc a)

  pub none_beyond : (a : ℕ) (more : List Up) → given a ≡ taken_of (part t (suc a)) ++ more →
      adds j items.items (suc a) ++ more ≡ []
  none_beyond a more after =
      sym (append_cancel_left (taken_of (part j (suc a))) [] (adds j items.items (suc a) ++ more)
      (append-nil (taken_of (part j (suc a))) ∙ sym (before a) ∙ after
      ∙ ap (λ (l : List Up). l ++ more) (taken_now a)
      ∙ append_assoc (taken_of (part j (suc a))) (adds j items.items (suc a)) more))

  pub none_taken : (up : ℕ → List Up) → ((a : ℕ) → given a ≡ taken_of (part t (suc a)) ++ up a) → t ≡ j
  none_taken up after =
      let none : items.items ≡ [] = no_adds j items.items items.read
      (λ a. none_front (adds j items.items (suc a)) (up a) (none_beyond a (up a) (after a))) in
      items.whole ∙ ap (λ (us : List Up). j ++ entries_of_items us) none ∙ append-nil j

  -- also beside a journal that went on by the bus alone
  pub none_taken_own : (k es : List Entry) → AreOwn es → k ≡ t ++ es → (up : ℕ → List Up) →
      ((a : ℕ) → given a ≡ taken_of (part k (suc a)) ++ up a) → t ≡ j
  none_taken_own k es own whole up after =
      none_taken up (λ a. after a ∙ ap (λ (l : List Up). l ++ up a)
      (ap (λ (l : List Entry). taken_of (part l (suc a))) whole ∙ own_taken t es (suc a) own))
