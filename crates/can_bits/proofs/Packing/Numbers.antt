-- Levels read off the number that they write.
use Rattle.std.proofs.Common.{◌≡◌, ◌+◌, ◌-◌, ◌*◌, ◌/◌, ◌%◌, ◌^◌, ◌<◌, ◌≤◌, ◌==◌, ℕ, List, [], ◌∷◌}
use Rattle.std.proofs.Common.{◌++◌, length, take, drop, slice_range, refl, ap, sym, subst, ◌∙◌, arith}
use Rattle.std.proofs.Math.Pow.{pow_mono}
use Rattle.std.proofs.lemmas.Nat.{div-mul-add, mod-mul-add, pow-add}
use Rattle.std.proofs.lemmas.List.{drop_more, take-append-drop, length-append, length-drop}
use Rattle.std.proofs.lemmas.List.Folds.{drop_split}
use Rattle.can_levels.specs.declared.level.Level.{Level}
use Rattle.can_levels.specs.declared.level.Level.TheVariants.{Dominant, Recessive}
use Rattle.can_levels.specs.Digits.{digit, level_of, value}
use Rattle.can_levels.specs.Fields.{level_at}
use Rattle.can_bits.specs.Packing.{Packs}
use Rattle.lemmas.proofs.Lists.{length_range}
use Rattle.can_levels.proofs.Values.{value-append, value-lt, value-push}

-- a number in three parts, of which the one in the middle is wanted
middle : (p s d k m n : ℕ) → s < 2 ^ k → d < 2 ^ m → n ≡ p * 2 ^ (k + m) + (s * 2 ^ m + d) → n / 2 ^ m % 2 ^ k ≡ s
middle p s d k m n small low e =
    let power : 2 ^ (k + m) ≡ 2 ^ k * 2 ^ m = pow-add 2 k m in
    let split : n ≡ (p * 2 ^ k + s) * 2 ^ m + d = e ∙ ap (λ q. p * q + (s * 2 ^ m + d)) power ∙ omega arith in
    ap (λ q. q / 2 ^ m % 2 ^ k) split ∙ ap (λ q. q % 2 ^ k) (div-mul-add (p * 2 ^ k + s) (2 ^ m) d low)
    ∙ mod-mul-add p (2 ^ k) s small

-- the number of a part of the levels
pub value_range : (w : List Level) (a b : ℕ) → a ≤ b → b ≤ length w →
    value w / 2 ^ (length w - b) % 2 ^ (b - a) ≡ value (slice_range w a b)
value_range w a b order within =
    let part : List Level = slice_range w a b in
    let rest : List Level = drop b w in
    let count : length part ≡ b - a = length_range w a b order within in
    let left : length rest ≡ length w - b = length-drop b w in
    let whole : w ≡ take a w ++ (part ++ rest) =
    sym (take-append-drop a w) ∙ ap (λ l. take a w ++ l) (drop_split w a b order) in
    let more : length (part ++ rest) ≡ b - a + (length w - b) = omega (arith, length-append part rest, count, left) in
    let number : value w ≡ value (take a w) * 2 ^ (b - a + (length w - b))
    + (value part * 2 ^ (length w - b) + value rest) =
    ap value whole ∙ value-append (take a w) (part ++ rest)
    ∙ ap (λ n. value (take a w) * 2 ^ n + value (part ++ rest)) more
    ∙ ap (λ n. value (take a w) * 2 ^ (b - a + (length w - b)) + n)
    (value-append part rest ∙ ap (λ n. value part * 2 ^ n + value rest) left) in
    let small : value part < 2 ^ (b - a) = subst (λ n. value part < 2 ^ n) count (value-lt part) in
    let low : value rest < 2 ^ (length w - b) = subst (λ n. value rest < 2 ^ n) left (value-lt rest) in
    middle (value (take a w)) (value part) (value rest) (b - a) (length w - b) (value w) small low number

-- the level of a level's digit
pub digit-level : (x : Level) → level_of (digit x == 1) ≡ x
digit-level Dominant = refl
digit-level Recessive = refl

-- one of the levels
pub level_packed : (w : List Level) (p : ℕ) → p < length w →
    level_of (value w / 2 ^ (length w - 1 - p) % 2 == 1) ≡ level_at w p
level_packed w p within =
    let one : slice_range w p (p + 1) ≡ level_at w p ∷ [] =
    ap (λ n. take n (drop p w)) (let count : p + 1 - p ≡ 1 = omega arith in count)
    ∙ ap (λ l. take 1 l) (drop_more w p Dominant within) in
    let power : 2 ^ (p + 1 - p) ≡ 2 = ap (λ n. 2 ^ n) (let count : p + 1 - p ≡ 1 = omega arith in count) in
    let place : length w - (p + 1) ≡ length w - 1 - p = omega arith in
    let number : value w / 2 ^ (length w - 1 - p) % 2 ≡ digit (level_at w p) =
    ap (λ n. value w / 2 ^ n % 2) (sym place) ∙ ap (λ n. value w / 2 ^ (length w - (p + 1)) % n) (sym power)
    ∙ value_range w p (p + 1) (omega arith) (omega arith) ∙ ap value one ∙ omega arith in
    ap (λ n. level_of (n == 1)) number ∙ digit-level (level_at w p)

-- a level more
pub packs_push : (word place new at : ℕ) (w : List Level) (x : Level) → Packs word place w → length w < 118 →
    new ≡ 2 * word + digit x → at ≡ place + 1 →
    Packs new at (w ++ x ∷ [])
packs_push word place new at w x h room grown next =
    let count = h.place_is in
    let more : length (w ++ x ∷ []) ≡ length w + 1 = omega (arith, length-append w (x ∷ [])) in
    record {
      place_is = omega (arith, next, count, more);
      word_is = grown ∙ ap (λ n. 2 * n + digit x) h.word_is ∙ sym (value-push w x);
      room = omega (arith, more);
    }

-- the word of so few levels has its highest digit free
pub packs_small : (word place : ℕ) (w : List Level) → Packs word place w → word < 2 ^ 118
packs_small word place w h =
    let most : 2 ^ length w ≤ 2 ^ 118 = pow_mono h.room in
    let number = h.word_is in
    omega (arith, number, value-lt w, most)
