-- Lists of levels that wait for equal ones: no front of them has the property yet, and with all that is waited for they
-- are the first that has it.
use Rattle.std.proofs.Common.{◌≡◌, ◌+◌, ◌<◌, ◌≤◌, ℕ, zero, suc, List, [], ◌∷◌, ◌++◌, replicate, length}
use Rattle.std.proofs.Common.{refl, ap, sym, subst, ◌∙◌, arith, append_assoc, add-one, ◌⊎◌, inl, inr}
use Rattle.std.proofs.lemmas.List.{append-nil, append_cancel_left, replicate_more}
use Rattle.std.proofs.lemmas.List.{same_from_push, length-append, nil_from_length}
use Rattle.can_levels.specs.declared.level.Level.{Level}
use Rattle.lemmas.proofs.Lists.{fronts}
use Rattle.can_node_rules.specs.Bits.{IsFirst}

-- no front of the list has the property
abbrev pub HasNone : (List Level → Type 0) → List Level → Type 0
HasNone P l = (front rest : List Level) → l ≡ front ++ rest → P front → ⊥

-- a list with a level in it isn't empty
never_empty : (a b : List Level) (x : Level) → a ++ x ∷ b ≡ [] → ⊥
never_empty [] b x e = cc
never_empty (y ∷ a) b x e = cc

-- no front of what came has it while one level at least is waited for
pub no_front_yet : (P : List Level → Type 0) (l : List Level) (k : ℕ) (v : Level) → 1 ≤ k →
    IsFirst P (l ++ replicate k v) → HasNone P l
no_front_yet P l zero v some h front rest e holds = absurd (omega arith)
no_front_yet P l (suc k) v some h front rest e holds =
    let more : List Level = replicate (suc k) v in
    let whole = ap (λ t. t ++ more) e ∙ append_assoc front rest more in
    never_empty rest (replicate k v) v (h.first front (rest ++ more) whole holds)

-- one of the levels that are waited for came
pub one_on : (P : List Level → Type 0) (l : List Level) (k j : ℕ) (v : Level) → k ≡ suc j →
    IsFirst P (l ++ replicate k v) → IsFirst P ((l ++ v ∷ []) ++ replicate j v)
one_on P l k j v e h =
    let same = ap (λ n. l ++ replicate n v) e ∙ sym (append_assoc l (v ∷ []) (replicate j v)) in
    subst (λ t. IsFirst P t) same h

-- it was the last of them
pub last_on : (P : List Level → Type 0) (l : List Level) (k : ℕ) (v : Level) → k ≡ 1 →
    IsFirst P (l ++ replicate k v) → IsFirst P (l ++ v ∷ [])
last_on P l k v e h = subst (λ t. IsFirst P t) (append-nil (l ++ v ∷ [])) (one_on P l k 0 v e h)

-- a front of copies of one level is all of them, or fewer
run_parts : (j : ℕ) (v : Level) (a b : List Level) → a ++ b ≡ replicate j v →
    (b ≡ []) ⊎ ((i : ℕ) × (i < j) × (a ≡ replicate i v))
run_parts zero v [] b e = inl e
run_parts (suc j) v [] b e = inr (0, omega arith, refl)
run_parts zero v (x ∷ a) b e = absurd cc
run_parts (suc j) v (x ∷ a) b e =
    let same : x ≡ v = cc in
    let others : a ++ b ≡ replicate j v = cc in
    elim (run_parts j v a b others) [
      | inl none ↦ inl none
      | inr few ↦ let less = few.1 in let is = few.2 in inr (suc few.0, omega arith, cc)
    ]

-- nothing is left after a front that reaches into the run
run_ends : (P : List Level → Type 0) (l : List Level) (u v : Level) (j : ℕ) → HasNone P l →
    ((i : ℕ) → i < j → P (l ++ u ∷ replicate i v) → ⊥) → (part rest : List Level) →
    u ∷ replicate j v ≡ part ++ rest → P (l ++ part) → rest ≡ []
run_ends P l u v j none few [] rest e holds =
    absurd (none (l ++ []) [] (sym (append-nil (l ++ []) ∙ append-nil l)) holds)
run_ends P l u v j none few (x ∷ part) rest e holds =
    let same : x ≡ u = cc in
    let others : part ++ rest ≡ replicate j v = cc in
    elim (run_parts j v part rest others) [
      | inl all ↦ all
      | inr less ↦
          let is : l ++ x ∷ part ≡ l ++ u ∷ replicate less.0 v = let part_is = less.2 in cc in
          absurd (few less.0 less.1 (subst P is holds))
    ]

-- the first list with the property ends with a level and j equal ones: none has it before, nor with fewer of them
pub first_run : (P : List Level → Type 0) (l : List Level) (u v : Level) (j : ℕ) → HasNone P l →
    ((i : ℕ) → i < j → P (l ++ u ∷ replicate i v) → ⊥) → P (l ++ u ∷ replicate j v) →
    IsFirst P (l ++ u ∷ replicate j v)
first_run P l u v j none few holds = record {
  holds = holds;
  first = λ front rest e has.
      elim (fronts l front (u ∷ replicate j v) rest e) [
        | inl longer ↦
            let part = longer.0 in
            let whole = e ∙ ap (λ t. t ++ rest) longer.1 ∙ append_assoc l part rest in
            run_ends P l u v j none few part rest (append_cancel_left l (u ∷ replicate j v) (part ++ rest) whole)
            (subst P longer.1 has)
        | inr shorter ↦ absurd (none front shorter.0 shorter.1 has)
      ];
}

-- a list with the property is the first where none with it is shorter
pub first_by_length : (P : List Level → Type 0) (l : List Level) →
    ((m : List Level) → P m → length l ≤ length m) → P l → IsFirst P l
first_by_length P l short holds = record {
  holds = holds;
  first = λ front rest e has.
      let all = ap (λ (t : List Level). length t) e ∙ length-append front rest in
      let least = short front has in
      nil_from_length rest (omega arith);
}

-- ---- equal levels at the end of a list

-- one level more, from the end
pub push_run : (a : List Level) (n : ℕ) (w : Level) → a ++ replicate (suc n) w ≡ (a ++ replicate n w) ++ w ∷ []
push_run a n w =
    ap (λ k. a ++ replicate k w) (sym (add-one n)) ∙ ap (λ t. a ++ t) (sym (replicate_more n w))
    ∙ sym (append_assoc a (replicate n w) (w ∷ []))

-- the same after a level of its own
push_on : (a : List Level) (u : Level) (n : ℕ) (w : Level) →
    a ++ u ∷ replicate (suc n) w ≡ (a ++ u ∷ replicate n w) ++ w ∷ []
push_on a u n w =
    sym (append_assoc a (u ∷ []) (replicate (suc n) w)) ∙ push_run (a ++ u ∷ []) n w
    ∙ ap (λ t. t ++ w ∷ []) (append_assoc a (u ∷ []) (replicate n w))

-- two lists that end in equal levels: the levels are the same, and so are the lists without the last one
pub same_end : (a b : List Level) (n k : ℕ) (v w : Level) → a ++ replicate (suc n) v ≡ b ++ replicate (suc k) w →
    (a ++ replicate n v ≡ b ++ replicate k w) × (v ≡ w)
same_end a b n k v w e =
    same_from_push (a ++ replicate n v) (b ++ replicate k w) v w (sym (push_run a n v) ∙ e ∙ push_run b k w)

-- where the last n levels are equal, one with fewer than n levels after it is one of them
pub ends_as : (n j : ℕ) (a b : List Level) (u v w : Level) → j < n → a ++ u ∷ replicate j v ≡ b ++ replicate n w → u ≡ w
ends_as zero j a b u v w less e = absurd (omega arith)
ends_as (suc n) zero a b u v w less e = (same_from_push a (b ++ replicate n w) u w (e ∙ push_run b n w)).1
ends_as (suc n) (suc j) a b u v w less e =
    let lines = sym (push_on a u j v) ∙ e ∙ push_run b n w in
    ends_as n j a b u v w (omega arith) (same_from_push (a ++ u ∷ replicate j v) (b ++ replicate n w) v w lines).0

-- what comes before the last k of them ends in the others
pub before_end : (k n : ℕ) (a b : List Level) (v w : Level) →
    a ++ replicate k v ≡ b ++ replicate (n + k) w → a ≡ b ++ replicate n w
before_end zero n a b v w e =
    let same : n + 0 ≡ n = omega arith in
    sym (append-nil a) ∙ e ∙ ap (λ m. b ++ replicate m w) same
before_end (suc k) n a b v w e =
    let same : n + suc k ≡ suc (n + k) = omega arith in
    before_end k n a b v w (same_end a b k (n + k) v w (e ∙ ap (λ m. b ++ replicate m w) same)).0

-- and they are the same levels
pub end_as : (k n : ℕ) (a b : List Level) (v w : Level) → 1 ≤ k → a ++ replicate k v ≡ b ++ replicate (n + k) w → v ≡ w
end_as zero n a b v w some e = absurd (omega arith)
end_as (suc k) n a b v w some e =
    let same : n + suc k ≡ suc (n + k) = omega arith in
    (same_end a b k (n + k) v w (e ∙ ap (λ m. b ++ replicate m w) same)).1
