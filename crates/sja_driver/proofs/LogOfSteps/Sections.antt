-- What the acts of one activation say, with an act more.
use Rattle.std.proofs.Common.{◌≡◌, ◌+◌, ℕ, Bool, true, false, cond, List, [], ◌∷◌, ◌++◌, refl, sym, ap, ◌∙◌, add-zero}
use Rattle.std.proofs.Common.{append-nil, append_assoc, add_assoc, zero-add, inl, inr}
use Rattle.std.specs.Prelude.{◌⊎◌, ◌==◌, if◌then◌else◌}
use Rattle.std.proofs.lemmas.Bool.{cases_eq, eq-eqb, ne_eqb}
use Rattle.lemmas.specs.Gathering.{gathered, total}
use Rattle.lemmas.proofs.Gathered.{gathered_append, total_push}
use Rattle.sja_driver.specs.TypedActs.{TypedAct, opens_by, opened_by, section_from, acts_of, active_after, active_from}

section_push : {X : Type 0} (o : X → ℕ) (n : ℕ) (xs : List X) (y : X) (a : ℕ) →
    section_from o n (xs ++ y ∷ []) a
    ≡ section_from o n xs a ++ (if ((n + total o xs) + o y) == a then y ∷ [] else [])
section_push o n [] y a = rw (add-zero, append-nil) refl
section_push o n (x ∷ xs) y a =
    ap (λ l. cond ((n + o x) == a) (x ∷ []) [] ++ l) (section_push o (n + o x) xs y a)
    ∙ sym (append_assoc (cond ((n + o x) == a) (x ∷ []) []) (section_from o (n + o x) xs a) _)
    ∙ ap (λ k. (cond ((n + o x) == a) (x ∷ []) [] ++ section_from o (n + o x) xs a)
    ++ cond ((k + o y) == a) (y ∷ []) [])
    (add_assoc n (o x) (total o xs))

pub acts_push : (xs : List TypedAct) (y : TypedAct) (a : ℕ) →
    acts_of (xs ++ y ∷ []) a ≡ acts_of xs a ++ (if (opened_by xs + opens_by y) == a then y ∷ [] else [])
acts_push xs y a = rw zero-add at (section_push opens_by 0 xs y a)

module _ {B : Type 0} (f : TypedAct → List B) (xs : List TypedAct) (y : TypedAct) (a : ℕ) where
  base : gathered f (acts_of (xs ++ y ∷ []) a)
      ≡ gathered f (acts_of xs a) ++ gathered f (if (opened_by xs + opens_by y) == a then y ∷ [] else [])
  base = ap (gathered f) (acts_push xs y a) ∙ gathered_append f (acts_of xs a) _

  one : ((opened_by xs + opens_by y) == a) ≡ true →
      gathered f (acts_of (xs ++ y ∷ []) a) ≡ gathered f (acts_of xs a) ++ f y
  one t = base ∙ ap (λ b. gathered f (acts_of xs a) ++ gathered f (cond b (y ∷ []) [])) t
      ∙ ap (λ x. gathered f (acts_of xs a) ++ x) (append-nil (f y))

  none : ((opened_by xs + opens_by y) == a) ≡ false →
      gathered f (acts_of (xs ++ y ∷ []) a) ≡ gathered f (acts_of xs a)
  none t = base ∙ ap (λ b. gathered f (acts_of xs a) ++ gathered f (cond b (y ∷ []) [])) t
      ∙ append-nil (gathered f (acts_of xs a))

  -- an act of this activation, or one that gives nothing
  pub acts_here : (opened_by xs + opens_by y ≡ a) ⊎ (f y ≡ []) →
      gathered f (acts_of (xs ++ y ∷ []) a) ≡ gathered f (acts_of xs a) ++ f y
  acts_here (inl e) = one (eq-eqb _ _ e)
  acts_here (inr q) = elim (cases_eq (opened_by xs + opens_by y) a) [
    | inl e ↦ one (eq-eqb _ _ e)
    | inr n ↦ none (ne_eqb _ _ n)
        ∙ sym (ap (λ x. gathered f (acts_of xs a) ++ x) q ∙ append-nil (gathered f (acts_of xs a)))
  ]

  -- an act of another activation, or one that gives nothing
  pub acts_else : ((opened_by xs + opens_by y ≡ a) → ⊥) ⊎ (f y ≡ []) →
      gathered f (acts_of (xs ++ y ∷ []) a) ≡ gathered f (acts_of xs a)
  acts_else (inl n) = none (ne_eqb _ _ n)
  acts_else (inr q) = elim (cases_eq (opened_by xs + opens_by y) a) [
    | inl e ↦ one (eq-eqb _ _ e) ∙ ap (λ x. gathered f (acts_of xs a) ++ x) q ∙ append-nil (gathered f (acts_of xs a))
    | inr n ↦ none (ne_eqb _ _ n)
  ]

pub active_push : (b : Bool) (xs : List TypedAct) (y : TypedAct) →
    active_from b (xs ++ y ∷ []) ≡ active_after (active_from b xs) y.step y.answer
active_push b [] y = refl
active_push b (x ∷ xs) y = active_push (active_after b x.step x.answer) xs y

pub opened_push : (xs : List TypedAct) (y : TypedAct) → opened_by (xs ++ y ∷ []) ≡ opened_by xs + opens_by y
opened_push xs y = total_push opens_by xs y
