-- Levels as binary digits.
use Rattle.std.proofs.Common.{true, false, ◌≡◌, ◌+◌, ◌*◌, ◌/◌, ◌%◌, ◌^◌, ◌<◌, ◌==◌, ℕ, zero, suc, List, []}
use Rattle.std.proofs.Common.{◌∷◌, ◌++◌, length, refl, ap, sym, subst, ◌∙◌, arith, append_assoc, add-one, ◌-◌}
use Rattle.std.proofs.Math.Nat.{pow-succ'}
use Rattle.std.proofs.lemmas.Nat.{shr-shr}
use Rattle.std.proofs.lemmas.List.{length-append, append-nil}
use Rattle.std.proofs.lemmas.List.Sums.{fold_push}
use Rattle.can_levels.specs.declared.level.Level.{Level}
use Rattle.can_levels.specs.declared.level.Level.TheVariants.{Dominant, Recessive}
use Rattle.can_levels.specs.Fields.{is_recessive}
use Rattle.can_levels.specs.Digits.{digit, level_of, bits, value}

-- a digit is 0 or 1
pub digit-lt : (x : Level) → digit x < 2
digit-lt Dominant = omega arith
digit-lt Recessive = omega arith

-- the digit of the level of a digit
pub level-digit : (r : ℕ) → r < 2 → digit (level_of (r == 1)) ≡ r
level-digit zero h = refl
level-digit (suc zero) h = refl
level-digit (suc (suc r)) h = absurd (omega arith)

-- one level more
pub value-push : (l : List Level) (x : Level) → value (l ++ x ∷ []) ≡ 2 * value l + digit x
value-push l x = fold_push (λ n level. 2 * n + digit level) 0 l x

-- no digits of a number
pub bits-nothing : (x : ℕ) → bits 0 x ≡ []
unfolding bits
bits-nothing x = refl

-- the digits of a number are as many as asked for
pub length-bits : (n x : ℕ) → length (bits n x) ≡ n
unfolding bits
length-bits zero x = refl
length-bits (suc n) x =
    omega (arith, length-append (bits n (x / 2)) (level_of (x % 2 == 1) ∷ []), length-bits n (x / 2))

-- the digits of a number after other levels
pub value-append-bits : (n : ℕ) (b : List Level) (x : ℕ) → x < 2 ^ n → value (b ++ bits n x) ≡ value b * 2 ^ n + x
unfolding bits
value-append-bits zero b x h = ap value (append-nil b) ∙ omega arith
value-append-bits (suc n) b x h =
    let half : x / 2 < 2 ^ n = omega (arith, pow-succ' 2 n) in
    let whole = value-append-bits n b (x / 2) half in
    let last = level-digit (x % 2) (omega arith) in
    ap value (sym (append_assoc b (bits n (x / 2)) (level_of (x % 2 == 1) ∷ [])))
    ∙ value-push (b ++ bits n (x / 2)) (level_of (x % 2 == 1)) ∙ rw (pow-succ' 2 n) (omega (arith, whole, last))

-- one digit more of a number, from the most significant on
pub bits-more : (k n x : ℕ) → k < n →
    bits (k + 1) (x / 2 ^ (n - (k + 1))) ≡ bits k (x / 2 ^ (n - k)) ++ level_of (x / 2 ^ (n - 1 - k) % 2 == 1) ∷ []
unfolding bits
bits-more k n x h =
    let here : n - (k + 1) ≡ n - 1 - k = omega arith in
    let above : n - 1 - k + 1 ≡ n - k = omega arith in
    let half : x / 2 ^ (n - 1 - k) / 2 ≡ x / 2 ^ (n - k) = shr-shr x (n - 1 - k) 1 ∙ ap (λ m. x / 2 ^ m) above in
    rw (here, add-one k) (ap (λ y. bits k y ++ level_of (x / 2 ^ (n - 1 - k) % 2 == 1) ∷ []) half)

-- levels after other levels
pub value-append : (b c : List Level) → value (b ++ c) ≡ value b * 2 ^ length c + value c
value-append b [] = ap value (append-nil b) ∙ omega arith
value-append b (x ∷ c) =
    let longer = value-append (b ++ x ∷ []) c in
    let alone = value-append (x ∷ []) c in
    ap value (sym (append_assoc b (x ∷ []) c)) ∙ longer ∙ ap (λ v. v * 2 ^ length c + value c) (value-push b x)
    ∙ rw (pow-succ' 2 (length c)) (omega (arith, alone))

-- levels write a number below a power of 2
pub value-lt : (l : List Level) → value l < 2 ^ length l
value-lt [] = omega arith
value-lt (Dominant ∷ l) = omega (arith, value-append (Dominant ∷ []) l, value-lt l, pow-succ' 2 (length l))
value-lt (Recessive ∷ l) = omega (arith, value-append (Recessive ∷ []) l, value-lt l, pow-succ' 2 (length l))

-- as many levels that write the same number are the same levels
pub value-injective : (c d : List Level) → length c ≡ length d → value c ≡ value d → c ≡ d
value-injective [] [] n h = refl
value-injective [] (y ∷ d) n h = absurd (omega arith)
value-injective (x ∷ c) [] n h = absurd (omega arith)
value-injective (Dominant ∷ c) (Dominant ∷ d) n h =
    ap (λ l. Dominant ∷ l) (value-injective c d (omega arith)
    (omega (arith, value-append (Dominant ∷ []) c, value-append (Dominant ∷ []) d)))
value-injective (Recessive ∷ c) (Recessive ∷ d) n h =
    let same : length c ≡ length d = omega arith in
    let power = ap (λ k. 2 ^ k) same in
    ap (λ l. Recessive ∷ l) (value-injective c d same (omega
    (arith, power, value-append (Recessive ∷ []) c, value-append (Recessive ∷ []) d)))
value-injective (Dominant ∷ c) (Recessive ∷ d) n h =
    let same : length c ≡ length d = omega arith in
    let power = ap (λ k. 2 ^ k) same in
    absurd (omega (arith, power, value-lt c, value-append (Dominant ∷ []) c, value-append (Recessive ∷ []) d))
value-injective (Recessive ∷ c) (Dominant ∷ d) n h =
    let same : length c ≡ length d = omega arith in
    let power = ap (λ k. 2 ^ k) same in
    absurd (omega (arith, power, value-lt d, value-append (Recessive ∷ []) c, value-append (Dominant ∷ []) d))

-- a level that is recessive, and one that isn't
pub recessive_by : (x : Level) → is_recessive x ≡ true → x ≡ Recessive
recessive_by Dominant h = cc
recessive_by Recessive h = refl

pub dominant_by : (x : Level) → is_recessive x ≡ false → x ≡ Dominant
dominant_by Dominant h = refl
dominant_by Recessive h = cc

-- the number that its digits write
pub value-bits : (n x : ℕ) → x < 2 ^ n → value (bits n x) ≡ x
value-bits n x h = let whole : value (bits n x) ≡ value [] * 2 ^ n + x = value-append-bits n [] x h in
    omega (arith, whole)

-- the digits of the number that levels write
pub bits-value : (n : ℕ) (l : List Level) → length l ≡ n → bits n (value l) ≡ l
bits-value n l h =
    let small : value l < 2 ^ n = subst (λ k. value l < 2 ^ k) h (value-lt l) in
    value-injective (bits n (value l)) l (length-bits n (value l) ∙ sym h) (value-bits n (value l) small)

-- numbers with the same digits are the same
pub bits-injective : (n x y : ℕ) → x < 2 ^ n → y < 2 ^ n → bits n x ≡ bits n y → x ≡ y
bits-injective n x y hx hy h = sym (value-bits n x hx) ∙ ap value h ∙ value-bits n y hy

-- the digits of a number, in two parts
pub bits-split : (m n x : ℕ) → bits (m + n) x ≡ bits m (x / 2 ^ n) ++ bits n x
unfolding bits
bits-split m zero x =
    let count : m + 0 ≡ m = omega arith in
    let number : x ≡ x / 2 ^ 0 = omega arith in
    ap (λ k. bits k x) count ∙ ap (λ y. bits m y) number ∙ sym (append-nil (bits m (x / 2 ^ 0)))
bits-split m (suc n) x =
    let count : m + suc n ≡ suc (m + n) = omega arith in
    let power : 1 + n ≡ suc n = omega arith in
    let half : x / 2 / 2 ^ n ≡ x / 2 ^ suc n = shr-shr x 1 n ∙ ap (λ k. x / 2 ^ k) power in
    let last : List Level = level_of (x % 2 == 1) ∷ [] in
    ap (λ k. bits k x) count ∙ ap (λ l. l ++ last) (bits-split m n (x / 2))
    ∙ append_assoc (bits m (x / 2 / 2 ^ n)) (bits n (x / 2)) last ∙ ap (λ y. bits m y ++ (bits n (x / 2) ++ last)) half
