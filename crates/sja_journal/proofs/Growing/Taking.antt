-- What was taken where one item at most waited.
use Rattle.std.proofs.Common.{◌≡◌, ◌≢◌, ℕ, suc, ◌≤◌, Bool, true, false, List, [], ◌∷◌, ◌++◌, length, refl, sym, ap}
use Rattle.std.proofs.Common.{◌∙◌, subst, cond, append_assoc, append-nil, arith, inl, inr}
use Rattle.std.specs.Prelude.{◌==◌, if◌then◌else◌}
use Rattle.std.proofs.lemmas.Bool.{cases_eq, eq-eqb, ne_eqb, eqb-true}
use Rattle.sja_journal.specs.declared.up.Up.{Up}
use Rattle.sja_journal.specs.declared.entry.Entry.{Entry}
use Rattle.sja_journal.specs.declared.entry.Entry.TheVariants.{Up as Item}
use Rattle.sja_journal.specs.Places.{past, place_of}
use Rattle.sja_journal.specs.Parts.{part}
use Rattle.sja_journal.specs.Carried.{taken_in, taken_of}
use Rattle.lemmas.proofs.Gathered.{gathered_push}
use Rattle.lemmas.proofs.Lists.{none_front, none_back}
use Rattle.sja_journal.proofs.JournalEntries.Entering.{part_here, part_else}
use Rattle.sja_journal.specs.Links.{stops_of}
use Rattle.sja_journal.specs.BitEntries.{entries_of_items, IsRead, AreRead}

-- the items that are of an activation
abbrev pub adds : List Entry → List Up → ℕ → List Up
adds j [] a = []
adds j (u ∷ us) a = (if (past (place_of j) (Item u)).activation == a then u ∷ [] else []) ++ adds (j ++ Item u ∷ []) us
    a

taken_one : (j : List Entry) (u : Up) (a : ℕ) → taken_of (part (j ++ Item u ∷ []) a) ≡ taken_of (part j a)
    ++ (if (past (place_of j) (Item u)).activation == a then u ∷ [] else [])
taken_one j u a = elim (cases_eq (past (place_of j) (Item u)).activation a) [
  | inl q ↦ ap taken_of (part_here j (Item u) a q) ∙ gathered_push taken_in (part j a) (Item u)
      ∙ ap (λ b. taken_of (part j a) ++ cond b (u ∷ []) []) (sym (eq-eqb _ _ q))
  | inr n ↦ ap taken_of (part_else j (Item u) a n) ∙ sym (append-nil (taken_of (part j a)))
      ∙ ap (λ b. taken_of (part j a) ++ cond b (u ∷ []) []) (sym (ne_eqb _ _ n))
]

pub taken_adds : (j : List Entry) (us : List Up) (a : ℕ) → taken_of (part (j ++ entries_of_items us) a) ≡ taken_of
    (part j a) ++ adds j us a
taken_adds j [] a = ap (λ k. taken_of (part k a)) (append-nil j) ∙ sym (append-nil (taken_of (part j a)))
taken_adds j (u ∷ us) a =
    ap (λ k. taken_of (part k a)) (sym (append_assoc j (Item u ∷ []) (entries_of_items us)))
    ∙ taken_adds (j ++ Item u ∷ []) us a
    ∙ ap (λ l. l ++ adds (j ++ Item u ∷ []) us a) (taken_one j u a)
    ∙ append_assoc (taken_of (part j a)) (if (past (place_of j) (Item u)).activation ==
    a then u ∷ [] else []) (adds (j ++ Item u ∷ []) us a)

-- what waits in an activation, where these wait in this one
abbrev pub waiting : ℕ → List Up → ℕ → List Up
waiting b gave a = if b == a then gave else []

none_either : (b : Bool) (l : List Up) → (if b then l else l) ≡ l
none_either true l = refl
none_either false l = refl

pub no_wait : (a : ℕ) → waiting 0 [] a ≡ []
no_wait a = none_either (0 == a) []

-- at most one
abbrev pub AtMostOne : List Up → Type 0
AtMostOne xs = length xs ≤ 1

pub some_none : (y : Up) (ys : List Up) → y ∷ ys ≡ [] → ⊥
some_none y ys e = cc

pub adds_first : (j : List Entry) (u : Up) (us : List Up) → IsRead j u → adds j (u ∷ us) (suc (stops_of j)) ≡ u ∷ adds
    (j ++ Item u ∷ []) us (suc (stops_of j))
adds_first j u us r =
    ap (λ t. cond t (u ∷ []) [] ++ adds (j ++ Item u ∷ []) us (suc (stops_of j)))
    (eq-eqb (past (place_of j) (Item u)).activation (suc (stops_of j)) r)

-- where no activation has one there is none
pub no_adds : (j : List Entry) (us : List Up) → AreRead j us → ((m : ℕ) → adds j us (suc m) ≡ []) → us ≡ []
no_adds j [] r none = refl
no_adds j (u ∷ us) r none =
    absurd (some_none u (adds (j ++ Item u ∷ []) us (suc (stops_of j))) (sym (adds_first j u us r.0)
    ∙ none (stops_of j)))

-- of one that waited and is the first that was taken
pub one_is : (b : Bool) (u : Up) (gave rest : List Up) → AtMostOne gave → cond b gave [] ≡ u ∷ rest →
    (b ≡ true) × (gave ≡ u ∷ []) × (rest ≡ [])
one_is true u [] rest few e = absurd cc
one_is true u (x ∷ []) rest few e = let h : x ≡ u = cc in let t : [] ≡ rest = cc in (refl, ap (λ y. y ∷ []) h, sym t)
one_is true u (x ∷ y ∷ ys) rest few e = absurd (omega (arith, few))
one_is false u gave rest few e = absurd cc

-- where at most one item waited, on the link that is read, and now that link shows nothing, just that one was taken
pub just_taken : (j : List Entry) (us gave : List Up) (b : ℕ) (up : ℕ → List Up) → AreRead j us → AtMostOne gave →
    (gave ≢ [] → b ≡ suc (stops_of j)) → ((a : ℕ) → waiting b gave (suc a) ≡ adds j us (suc a) ++ up a) →
    up (stops_of (j ++ entries_of_items us)) ≡ [] → us ≡ gave
just_taken j [] [] b up read few here whole dry = refl
just_taken j [] (x ∷ xs) b up read few here whole dry =
    let n : stops_of (j ++ []) ≡ stops_of j = ap stops_of (append-nil j) in
    let at : waiting b (x ∷ xs) (suc (stops_of j)) ≡ x ∷ xs =
    ap (λ t. cond t (x ∷ xs) []) (eq-eqb b (suc (stops_of j)) (here (λ e. cc))) in
    let none : up (stops_of j) ≡ [] = ap up (sym n) ∙ dry in
    absurd (some_none x xs (sym at ∙ whole (stops_of j) ∙ none))
just_taken j (u ∷ us) gave b up read few here whole dry =
    let first : cond (b == suc (stops_of j)) gave [] ≡ u ∷ (adds (j ++ Item u ∷ []) us (suc (stops_of j)) ++ up
    (stops_of j)) =
    whole (stops_of j) ∙ ap (λ l. l ++ up (stops_of j)) (adds_first j u us read.0) in
    let one = one_is (b == suc (stops_of j)) u gave _ few first in
    let is : b ≡ suc (stops_of j) = eqb-true b (suc (stops_of j)) one.0 in
    let none : us ≡ [] = no_adds (j ++ Item u ∷ []) us read.1 (λ m. elim (cases_eq (stops_of j) m) [
      | inl q ↦ subst (λ (n : ℕ). adds (j ++ Item u ∷ []) us (suc n) ≡ []) q
          (none_front (adds (j ++ Item u ∷ []) us (suc (stops_of j))) (up (stops_of j)) one.2)
      | inr differ ↦
          let off : cond (b == suc m) gave [] ≡ [] =
          ap (λ t. cond t gave []) (ne_eqb b (suc m) (λ e. omega (arith, e, is, differ))) in
          none_back _ (adds (j ++ Item u ∷ []) us (suc m)) (none_front (adds j (u ∷ us) (suc m)) (up m)
          (sym (whole m) ∙ off))
    ]) in
    ap (λ l. u ∷ l) none ∙ sym one.1
