-- Lists with an element set, and the ends of all nodes.
use Rattle.std.proofs.Common.{◌≡◌, ◌≢◌, ℕ, ◌<◌, List, [], length, sym, ap, ◌∙◌, subst, append-nil, inl, inr}
use Rattle.std.specs.Prelude.{slice_index_or, slice_set}
use Rattle.std.proofs.lemmas.Bool.{cases_eq}
use Rattle.std.proofs.lemmas.List.{set-get_or, get_or-set_same, get_or-set_other}
use Rattle.std.proofs.lemmas.Slice.Zip.{AllZip-long}
use Rattle.lemmas.specs.Related.{EachRelated}
use Rattle.lemmas.proofs.Related.{each_at}
use Rattle.sja_journal.specs.Links.{AreEnds}
use Rattle.sja_driver.specs.TypedActs.{TypedAct, with_acts, acts_at}

-- what holds of three lists place by place, where one place of each is set anew
pub each_set : {A B C : Type 0} (P : ℕ → A → B → C → Type 0) (xs : List A) (ys : List B) (zs : List C) (i : ℕ)
    (x a : A) (y b : B) (z c : C) → i < length xs → i < length ys → i < length zs → P i x y z →
    ((m : ℕ) → (m ≡ i → ⊥) → P m (slice_index_or xs m a) (slice_index_or ys m b) (slice_index_or zs m c)) →
    (m : ℕ) → P m (slice_index_or (slice_set xs i x) m a) (slice_index_or (slice_set ys i y) m b)
    (slice_index_or (slice_set zs i z) m c)
each_set P xs ys zs i x a y b z c p q r here others m = elim (cases_eq i m) [
  | inl e ↦
      subst (λ k. P k (slice_index_or (slice_set xs i x) k a) (slice_index_or (slice_set ys i y) k b)
      (slice_index_or (slice_set zs i z) k c)) e
      (rw (get_or-set_same xs i x a p, get_or-set_same ys i y b q, get_or-set_same zs i z c r) here)
  | inr differ ↦
      let other : m ≢ i = λ e. differ (sym e) in
      rw (get_or-set_other xs i m x a other, get_or-set_other ys i m y b other, get_or-set_other zs i m z c other)
      (others m other)
]

pub no_acts : (acts : List (List TypedAct)) (node : ℕ) → with_acts acts node [] ≡ acts
no_acts acts node = ap (slice_set acts node) (append-nil (acts_at acts node)) ∙ set-get_or acts node []

-- ends of which each is another state of what stood there are those of the same nodes
pub ends_still : {E : Type 0} (node_of : E → ℕ) (alike : E → E → Type 0) →
    ((a b : E) → alike a b → node_of b ≡ node_of a) → (nodes : ℕ) (links after : List E) →
    AreEnds node_of nodes links → EachRelated alike links after → AreEnds node_of nodes after
ends_still node_of alike same_node nodes links after ends sames = record {
  count = AllZip-long alike links after sames ∙ ends.count;
  own = λ node d less. each_at alike node_of same_node links after node d sames ∙ ends.own node d less;
}
