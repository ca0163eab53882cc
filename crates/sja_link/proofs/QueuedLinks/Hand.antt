-- The link at hand of a node in one thread, put back and exchanged for another.
use Rattle.std.proofs.Common.{◌≡◌, ℕ, suc, ◌+◌, ◌<◌, List, [], ◌∷◌, ◌++◌, length}
use Rattle.std.proofs.Common.{drop, cond, sym, ap, ◌∙◌, inl, inr, arith}
use Rattle.std.specs.Prelude.{◌≢◌, slice_index_or, slice_set}
use Rattle.std.proofs.lemmas.Bool.{cases_eq, eq-eqb, ne_eqb}
use Rattle.std.proofs.lemmas.List.{length-set}
use Rattle.sja_link.specs.Deques.{Deques, Queues, nothing_lies, among, queues_on}
use Rattle.sja_link.proofs.QueuedLinks.Among.{among_before, among_beyond, among_at, among_set}
use Rattle.sja_link.proofs.QueuedLinks.Among.{among_set_else, among_moved}

-- ---- on the link at hand, and on another

pub hand_here : (s : Deques) (b : ℕ) → s.at ≡ b → queues_on s b ≡ s.here
hand_here s b e = ap (λ x. cond x s.here (among s.first s.others b)) (eq-eqb s.at b e)

pub hand_else : (s : Deques) (b : ℕ) → s.at ≢ b → queues_on s b ≡ among s.first s.others b
hand_else s b n = ap (λ x. cond x s.here (among s.first s.others b)) (ne_eqb s.at b n)

module _ (s : Deques) (p : ℕ) (at : s.at ≡ s.first + p) (there : p < length s.others) where
  abbrev back : List Queues
  back = slice_set s.others p s.here

  as_many : length back ≡ length s.others
  as_many = length-set s.others p s.here

  -- it is put back
  pub put_back : (b : ℕ) → among s.first back b ≡ queues_on s b
  put_back b = elim (cases_eq s.at b) [
    | inl e ↦ among_set s.others s.first p b s.here (sym e ∙ at) there ∙ sym (hand_here s b e)
    | inr o ↦ among_set_else s.others s.first p b s.here (λ e. o (at ∙ sym e)) ∙ sym (hand_else s b o)
  ]

  -- another one is taken
  pub turned_lies : (t : Deques) (q a : ℕ) (y : Queues) → a ≡ s.first + q → q < length s.others → t.at ≡ a →
      t.first ≡ s.first → t.here ≡ slice_index_or back q t.here → t.others ≡ slice_set back q y → (b : ℕ) →
      queues_on t b ≡ queues_on s b
  turned_lies t q a y is less hand first here others b = elim (cases_eq t.at b) [
    | inl e ↦
        hand_here t b e ∙ here
        ∙ sym (among_at back s.first q b t.here (sym e ∙ hand ∙ is) (omega (arith, less, as_many))) ∙ put_back b
    | inr o ↦
        hand_else t b o ∙ ap (λ f. among f t.others b) first ∙ ap (λ l. among s.first l b) others
        ∙ among_set_else back s.first q b y (λ e. o (hand ∙ is ∙ sym e)) ∙ put_back b
  ]

  pub turned_place : (q a : ℕ) (y : Queues) → a ≡ s.first + q → q < length s.others → y ≡ nothing_lies →
      among s.first (slice_set back q y) a ≡ nothing_lies
  turned_place q a y is less none = among_set back s.first q a y is (omega (arith, less, as_many)) ∙ none

  -- the first one has none any more, and an empty one is the last
  pub moved_lies : (t : Deques) (last : Queues) → last ≡ nothing_lies → t.at ≡ s.first + length s.others →
      t.first ≡ suc s.first → t.here ≡ nothing_lies → t.others ≡ drop 1 back ++ last ∷ [] → (b : ℕ) →
      b ≢ s.first → queues_on t b ≡ queues_on s b
  moved_lies t last empty hand first here others b differ = elim (cases_eq t.at b) [
    | inl e ↦
        hand_here t b e ∙ here
        ∙ sym (among_beyond s.others s.first b (omega (arith, e, hand)))
        ∙ sym (hand_else s b (λ f. omega (arith, e, f, hand, at, there)))
    | inr o ↦
        hand_else t b o ∙ ap (λ f. among f t.others b) first ∙ ap (λ l. among (suc s.first) l b) others
        ∙ ap (λ (q : Queues). among (suc s.first) (drop 1 back ++ q ∷ []) b) empty
        ∙ among_moved back s.first b differ ∙ put_back b
  ]

  pub moved_place : (last : Queues) → last ≡ nothing_lies →
      among (suc s.first) (drop 1 back ++ last ∷ []) (s.first + length s.others) ≡ nothing_lies
  moved_place last empty =
      ap (λ (q : Queues). among (suc s.first) (drop 1 back ++ q ∷ []) (s.first + length s.others)) empty
      ∙ among_moved back s.first (s.first + length s.others) (λ e. omega (arith, e, there))
      ∙ among_beyond back s.first (s.first + length s.others) (omega (arith, as_many))

  pub moved_none : (t : Deques) → t.at ≡ s.first + length s.others → t.first ≡ suc s.first →
      queues_on t s.first ≡ nothing_lies
  moved_none t hand first =
      hand_else t s.first (λ e. omega (arith, e, hand, there))
      ∙ among_before t.others t.first s.first (omega (arith, first))

  -- the first one, put back
  pub first_back : (x : Queues) → x ≡ slice_index_or back 0 x → x ≡ queues_on s s.first
  first_back x is =
      is ∙ sym (among_at back s.first 0 s.first x (omega arith) (omega (arith, as_many, there))) ∙ put_back s.first
