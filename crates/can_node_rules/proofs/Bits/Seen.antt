-- What was seen and driven in lists of bits.
use Rattle.std.proofs.Common.{◌≡◌, Bool, List, [], ◌∷◌, ◌++◌, refl, ap, sym, subst, ◌∙◌, append_assoc}
use Rattle.std.proofs.lemmas.List.{append-nil}
use Rattle.can_levels.specs.declared.level.Level.{Level}
use Rattle.can_node_rules.specs.Bits.{Bit, seen_of}
use Rattle.can_node_rules.specs.Frames.{Acknowledges, AllAcknowledge}

-- what was seen in two lists, one after the other
pub seen-append : (a b : List Bit) → seen_of (a ++ b) ≡ seen_of a ++ seen_of b
seen-append [] b = refl
seen-append (x ∷ a) b = ap (λ l. x.seen ∷ l) (seen-append a b)

-- the same after some levels
pub seen_on : (l : List Level) (a b : List Bit) → l ++ seen_of (a ++ b) ≡ (l ++ seen_of a) ++ seen_of b
seen_on l a b = ap (λ m. l ++ m) (seen-append a b) ∙ sym (append_assoc l (seen_of a) (seen_of b))

-- and of a list that is those two
pub seen_split : (l : List Level) (bits a b : List Bit) → bits ≡ a ++ b →
    l ++ seen_of bits ≡ (l ++ seen_of a) ++ seen_of b
seen_split l bits a b e = ap (λ m. l ++ seen_of m) e ∙ seen_on l a b

-- there is no bit to answer in
pub acknowledges_none : (listen : Bool) (l : List Level) → AllAcknowledge listen l []
acknowledges_none listen l [] after b e = absurd cc
acknowledges_none listen l (x ∷ before) after b e = absurd cc

-- a first bit and all later ones
pub acknowledges_cons : (listen : Bool) (l : List Level) (x : Bit) (bits : List Bit) → Acknowledges listen l x.driven →
    AllAcknowledge listen (l ++ x.seen ∷ []) bits →
    AllAcknowledge listen l (x ∷ bits)
acknowledges_cons listen l x bits first later [] after b e =
    let P : List Level → Type 0 = λ m. Acknowledges listen m x.driven in
    let Q : Bit → Type 0 = λ y. Acknowledges listen (l ++ []) y.driven in
    let same : x ≡ b = cc in
    subst Q same (subst P (sym (append-nil l)) first)
acknowledges_cons listen l x bits first later (y ∷ before) after b e =
    let same : x ≡ y = cc in
    let rest : bits ≡ before ++ b ∷ after = cc in
    let P : List Level → Type 0 = λ m. Acknowledges listen m b.driven in
    let seen : (l ++ x.seen ∷ []) ++ seen_of before ≡ l ++ y.seen ∷ seen_of before =
    append_assoc l (x.seen ∷ []) (seen_of before) ∙ ap (λ (z : Bit). l ++ z.seen ∷ seen_of before) same in
    subst P seen (later before after b rest)

-- the bits before one more
acknowledges_front : (listen : Bool) (l : List Level) (x : Bit) (bits : List Bit) → AllAcknowledge listen l (x ∷ bits) →
    AllAcknowledge listen (l ++ x.seen ∷ []) bits
acknowledges_front listen l x bits h before after b e =
    let P : List Level → Type 0 = λ m. Acknowledges listen m b.driven in
    subst P (sym (append_assoc l (x.seen ∷ []) (seen_of before))) (h (x ∷ before) after b (ap (λ m. x ∷ m) e))

-- one bit more at the end
pub acknowledges_push : (listen : Bool) (l : List Level) (bits : List Bit) (x : Bit) → AllAcknowledge listen l bits →
    Acknowledges listen (l ++ seen_of bits) x.driven →
    AllAcknowledge listen l (bits ++ x ∷ [])
acknowledges_push listen l [] x h last =
    acknowledges_cons listen l x [] (subst (λ m. Acknowledges listen m x.driven) (append-nil l) last)
    (acknowledges_none listen (l ++ x.seen ∷ []))
acknowledges_push listen l (b ∷ bits) x h last =
    let P : List Level → Type 0 = λ m. Acknowledges listen m x.driven in
    acknowledges_cons listen l b (bits ++ x ∷ [])
    (subst (λ m. Acknowledges listen m b.driven) (append-nil l) (h [] bits b refl))
    (acknowledges_push listen (l ++ b.seen ∷ []) bits x (acknowledges_front listen l b bits h)
    (subst P (sym (append_assoc l (b.seen ∷ []) (seen_of bits))) last))
