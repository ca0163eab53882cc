-- Journals and links that move together.
use Rattle.std.proofs.Common.{◌≡◌, ℕ, suc, Bool, true, false, List, [], ◌∷◌, ◌++◌, refl, sym, ap}
use Rattle.std.proofs.Common.{◌∙◌, subst, append_assoc, append-nil, arith, inl, inr}
use Rattle.std.proofs.lemmas.Bool.{cases_eq}
use Rattle.sja_journal.specs.declared.entry.Entry.{Entry}
use Rattle.sja_journal.specs.declared.entry.Entry.TheVariants.{Abort}
use Rattle.sja_journal.specs.Lists.{Lists, OthersStand, Carries}
use Rattle.sja_journal.specs.Places.{past, place_of}
use Rattle.sja_journal.specs.Parts.{part}
use Rattle.sja_journal.specs.Accounts.{Account, account, with_entry}
use Rattle.sja_journal.proofs.JournalEntries.Entering.{account_here, account_else, part_else}
use Rattle.sja_journal.specs.Links.{Grows}
use Rattle.sja_link.specs.Moving.{Moves, Goes}
use Rattle.sja_journal.specs.BitEntries.{MayHaveAbort, abort_as}

pub grows_refl : (j : List Entry) → Grows j j
grows_refl j = ([], sym (append-nil j))

pub grows_trans : (i j k : List Entry) → Grows i j → Grows j k → Grows i k
grows_trans i j k p q = (p.0 ++ q.0, q.1 ∙ ap (λ l. l ++ q.0) p.1 ∙ append_assoc i p.0 q.0)

-- an entry, and the link that it was put on or taken from
pub moves_push : {E : Type 0} (stands : E → ℕ → Lists → Type 0) (old new : E) (j : List Entry) (e : Entry) (a : ℕ) →
    (past (place_of j) e).activation ≡ a → OthersStand stands a old new →
    Carries stands a old new (λ l. with_entry l e) → Moves stands old new j (j ++ e ∷ []) a
moves_push stands old new j e a at others f = record {
  here = λ h was. subst (λ (l : Lists). stands new a l) (sym (account_here j e a h at)) (f (account j a h) was);
  others = others;
  parts = λ b ne. part_else j e b (λ q. ne (sym q ∙ at));
  grows = (e ∷ [], refl);
}

-- an entry that puts nothing and takes nothing
pub account_quiet : (j : List Entry) (e : Entry) (a : ℕ) (h : Account) → ((l : Lists) → with_entry l e ≡ l) →
    account (j ++ e ∷ []) a h ≡ account j a h
account_quiet j e a h quiet = elim (cases_eq (past (place_of j) e).activation a) [
  | inl q ↦ account_here j e a h q ∙ quiet (account j a h)
  | inr n ↦ account_else j e a h n
]

pub goes_refl : {E : Type 0} (same : E → E → Type 0) (stands : E → ℕ → Lists → Type 0) → ((x : E) → same x x) →
    (end : E) (j : List Entry) → Goes same stands end end j j
goes_refl same stands r end j = record { is_same = r end; kept = λ h k. k; grows = grows_refl j }

pub goes_trans : {E : Type 0} (same : E → E → Type 0) (stands : E → ℕ → Lists → Type 0) →
    ((x y z : E) → same x y → same y z → same x z) → (x y z : E) (j k l : List Entry) →
    Goes same stands x y j k → Goes same stands y z k l → Goes same stands x z j l
goes_trans same stands t x y z j k l p q = record {
  is_same = t x y z p.is_same q.is_same;
  kept = λ h was. q.kept h (p.kept h was);
  grows = grows_trans j k l p.grows q.grows;
}

-- the link of one activation moved with the journal
pub goes_one : {E : Type 0} (same : E → E → Type 0) (stands : E → ℕ → Lists → Type 0) (x y : E) (j k : List Entry)
    (a : ℕ) → same x y → Moves stands x y j k (suc a) → Goes same stands x y j k
goes_one same stands x y j k a s m = record {
  is_same = s;
  kept = λ h was b. elim (cases_eq b a) [
    | inl q ↦ subst (λ (n : ℕ). stands y (suc n) (account k (suc n) (h n))) (sym q) (m.here (h a) (was a))
    | inr n ↦
        let differs : suc b ≡ suc a → ⊥ = λ e. n (omega (arith, e)) in
        let p : part k (suc b) ≡ part j (suc b) = m.parts (suc b) differs in
        rw p (m.others (suc b) differs (account j (suc b) (h b)) (was b))
  ];
  grows = m.grows;
}

-- an entry that says nothing of the links
pub goes_quiet : {E : Type 0} (same : E → E → Type 0) (stands : E → ℕ → Lists → Type 0) → ((x : E) → same x x) →
    (end : E) (j : List Entry) (e : Entry) → ((l : Lists) → with_entry l e ≡ l) →
    Goes same stands end end j (j ++ e ∷ [])
goes_quiet same stands r end j e quiet = record {
  is_same = r end;
  kept = λ h k a. subst (λ (x : Lists). stands end (suc a) x) (sym (account_quiet j e (suc a) (h a) quiet)) (k a);
  grows = (e ∷ [], refl);
}

pub moves_quiet : {E : Type 0} (stands : E → ℕ → Lists → Type 0) (end : E) (j : List Entry) (e : Entry) (a : ℕ) →
    (past (place_of j) e).activation ≡ a → ((l : Lists) → with_entry l e ≡ l) →
    Moves stands end end j (j ++ e ∷ []) a
moves_quiet stands end j e a at quiet = moves_push stands end end j e a at (λ b n l s. s)
    (λ l was. subst (λ (x : Lists). stands end a x) (sym (quiet l)) was)

pub moves_trans : {E : Type 0} (stands : E → ℕ → Lists → Type 0) (x y z : E) (j k l : List Entry) (a : ℕ) →
    Moves stands x y j k a → Moves stands y z k l a → Moves stands x z j l a
moves_trans stands x y z j k l a p q = record {
  here = λ h was. q.here h (p.here h was);
  others = λ b n l s. q.others b n l (p.others b n l s);
  parts = λ b n. q.parts b n ∙ p.parts b n;
  grows = grows_trans j k l p.grows q.grows;
}

-- an abort, or none
pub goes_aborted : {E : Type 0} (same : E → E → Type 0) (stands : E → ℕ → Lists → Type 0) → ((x : E) → same x x) →
    (end : E) (j k : List Entry) → MayHaveAbort j k → Goes same stands end end j k
goes_aborted {E} same stands r end j k h = go h.changed h.whole
  where
    go : (changed : Bool) → k ≡ j ++ abort_as changed → Goes same stands end end j k
    go true e = let P : List Entry → Type 0 = λ l. Goes same stands end end j l in
        subst P (sym e) (goes_quiet same stands r end j Abort (λ l. refl))
    go false e = let P : List Entry → Type 0 = λ l. Goes same stands end end j l in
        subst P (sym (e ∙ append-nil j)) (goes_refl same stands r end j)
