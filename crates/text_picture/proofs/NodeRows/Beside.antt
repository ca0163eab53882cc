-- What stands beside node traces, as the rows of their nodes, changed one after another by them.
use Rattle.std.proofs.Common.{◌≡◌, ℕ, ◌+◌, ◌<◌, ◌≤◌, zero, suc, List, [], ◌∷◌, length}
use Rattle.std.proofs.Common.{slice_index_or, slice_set, refl, arith, subst}
use Rattle.text_trace.specs.declared.node_trace.NodeTrace.{NodeTrace}
use Rattle.text_picture.specs.Drawing.{EachBeside}

-- so many are related to those that were there, and the others are as they were
abbrev pub Beside : {A : Type 0} → (NodeTrace → A → A → Type 0) → ℕ → List NodeTrace → List A → List A → Type 0
Beside R k [] [] [] = Unit {0}
Beside R k [] [] (n ∷ news) = ⊥
Beside R k [] (o ∷ olds) news = ⊥
Beside R k (t ∷ ts) [] news = ⊥
Beside R k (t ∷ ts) (o ∷ olds) [] = ⊥
Beside R zero (t ∷ ts) (o ∷ olds) (n ∷ news) = (n ≡ o) × Beside R zero ts olds news
Beside R (suc k) (t ∷ ts) (o ∷ olds) (n ∷ news) = R t o n × Beside R k ts olds news

-- none yet
pub beside_none : {A : Type 0} (R : NodeTrace → A → A → Type 0) (ts : List NodeTrace) (olds : List A) →
    length ts ≡ length olds → Beside R 0 ts olds olds
beside_none R [] [] long = tt
beside_none R [] (o ∷ olds) long = cc
beside_none R (t ∷ ts) [] long = cc
beside_none R (t ∷ ts) (o ∷ olds) long = (refl, beside_none R ts olds (omega (arith, long)))

-- one more
beside_more : {A : Type 0} (R : NodeTrace → A → A → Type 0) (k : ℕ) (ts : List NodeTrace)
    (olds news : List A) (t : NodeTrace) (d z : A) → Beside R k ts olds news → k < length news →
    R (slice_index_or ts k t) (slice_index_or news k d) z → Beside R (suc k) ts olds (slice_set news k z)
beside_more R k [] [] [] t d z p less r = tt
beside_more R k [] [] (n ∷ news) t d z p less r = absurd p
beside_more R k [] (o ∷ olds) news t d z p less r = absurd p
beside_more R k (u ∷ ts) [] news t d z p less r = absurd p
beside_more R k (u ∷ ts) (o ∷ olds) [] t d z p less r = absurd p
beside_more {A} R zero (u ∷ ts) (o ∷ olds) (n ∷ news) t d z p less r =
    let P : A → Type 0 = λ w. R u w z in (subst P p.0 r, p.1)
beside_more R (suc k) (u ∷ ts) (o ∷ olds) (n ∷ news) t d z p less r =
    (p.0, beside_more R k ts olds news t d z p.1 (omega (arith, less)) r)

pub beside_next : {A : Type 0} (R : NodeTrace → A → A → Type 0) (k : ℕ) (ts : List NodeTrace)
    (olds news : List A) (t : NodeTrace) (d z : A) → Beside R k ts olds news → k < length news →
    R (slice_index_or ts k t) (slice_index_or news k d) z → Beside R (k + 1) ts olds (slice_set news k z)
beside_next R k ts olds news t d z p less r =
    let one : suc k ≡ k + 1 = omega arith in
    let P : ℕ → Type 0 = λ i. Beside R i ts olds (slice_set news k z) in
    subst P one (beside_more R k ts olds news t d z p less r)

-- all
pub beside_all : {A : Type 0} (R : NodeTrace → A → A → Type 0) (k : ℕ) (ts : List NodeTrace)
    (olds news : List A) → Beside R k ts olds news → length news ≤ k → EachBeside R ts olds news
beside_all R k [] [] [] p past = tt
beside_all R k [] [] (n ∷ news) p past = absurd p
beside_all R k [] (o ∷ olds) news p past = absurd p
beside_all R k (t ∷ ts) [] news p past = absurd p
beside_all R k (t ∷ ts) (o ∷ olds) [] p past = absurd p
beside_all R zero (t ∷ ts) (o ∷ olds) (n ∷ news) p past = absurd (omega (arith, past))
beside_all R (suc k) (t ∷ ts) (o ∷ olds) (n ∷ news) p past =
    (p.0, beside_all R k ts olds news p.1 (omega (arith, past)))
