-- Lists of bits in which the node drives one level throughout.
use Rattle.std.proofs.Common.{◌≡◌, ◌≢◌, List, [], ◌∷◌, ◌++◌, length, refl, ap, sym, ◌∙◌}
use Rattle.std.proofs.lemmas.List.{map-append, length-map}
use Rattle.can_levels.specs.declared.level.Level.{Level}
use Rattle.can_levels.specs.declared.level.Level.TheVariants.{Dominant, Recessive}
use Rattle.can_node_rules.specs.Bits.{Bit, recessive_bit, dominant_bit, recessive_bits, dominant_bits, seen_of}

-- the two levels are two
pub recessive-other : Recessive ≢ Dominant
recessive-other h = cc

pub dominant-other : Dominant ≢ Recessive
dominant-other h = cc

-- the levels of bits in which the node drives recessive, and those of more bits
pub seen_receives : (l : List Level) (x : List Bit) → seen_of (recessive_bits l ++ x) ≡ l ++ seen_of x
seen_receives [] x = refl
seen_receives (u ∷ l) x = ap (λ t. u ∷ t) (seen_receives l x)

-- the same where it drives dominant
pub seen_forces : (l : List Level) (x : List Bit) → seen_of (dominant_bits l ++ x) ≡ l ++ seen_of x
seen_forces [] x = refl
seen_forces (u ∷ l) x = ap (λ t. u ∷ t) (seen_forces l x)

-- two fronts of one list of bits, in all of which the node drives recessive, have levels that are fronts of one list
pub same_receives : (l k : List Level) (x y : List Bit) → recessive_bits l ++ x ≡ recessive_bits k ++ y →
    l ++ seen_of x ≡ k ++ seen_of y
same_receives l k x y e = sym (seen_receives l x) ∙ ap (λ (t : List Bit). seen_of t) e ∙ seen_receives k y

-- the same where it drives dominant
pub same_forces : (l k : List Level) (x y : List Bit) → dominant_bits l ++ x ≡ dominant_bits k ++ y →
    l ++ seen_of x ≡ k ++ seen_of y
same_forces l k x y e = sym (seen_forces l x) ∙ ap (λ (t : List Bit). seen_of t) e ∙ seen_forces k y

-- a node that drives recessive throughout drives nothing dominant
pub never_dominant : (l : List Level) (a b : List Bit) (x : Level) → recessive_bits l ≡ a ++ dominant_bit x ∷ b → ⊥
never_dominant [] [] b x e = cc
never_dominant [] (y ∷ a) b x e = cc
never_dominant (u ∷ l) [] b x e =
    let same : recessive_bit u ≡ dominant_bit x = cc in
    let driven : Recessive ≡ Dominant = ap (λ (t : Bit). t.driven) same in cc
never_dominant (u ∷ l) (y ∷ a) b x e = never_dominant l a b x cc

-- what is seen where it drives recessive
pub seen_received : (l : List Level) → seen_of (recessive_bits l) ≡ l
seen_received [] = refl
seen_received (u ∷ l) = ap (λ t. u ∷ t) (seen_received l)

-- more bits in which it drives recessive
pub receives_on : (bits : List Bit) (l k m : List Level) → bits ≡ recessive_bits l → l ++ k ≡ m →
    bits ++ recessive_bits k ≡ recessive_bits m
receives_on bits l k m e more =
    ap (λ t. t ++ recessive_bits k) e ∙ sym (map-append recessive_bit l k) ∙ ap (λ t. recessive_bits t) more

-- the same where it drives dominant
pub forces_on : (bits : List Bit) (l k m : List Level) → bits ≡ dominant_bits l → l ++ k ≡ m →
    bits ++ dominant_bits k ≡ dominant_bits m
forces_on bits l k m e more = ap (λ t. t ++ dominant_bits k) e ∙ sym (map-append dominant_bit l k)
    ∙ ap (λ t. dominant_bits t) more

-- how many bits they are where it drives recessive
pub receives_length : (bits : List Bit) (l : List Level) → bits ≡ recessive_bits l → length bits ≡ length l
receives_length bits l e = ap (λ (t : List Bit). length t) e ∙ length-map l recessive_bit
