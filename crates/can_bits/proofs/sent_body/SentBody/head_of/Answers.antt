use Rattle.std.proofs.Common.{◌≡◌, ◌+◌, ◌*◌, ◌/◌, ◌%◌, ◌^◌, ◌<◌, ◌∙◌, ◌++◌, ◌∷◌, [], ℕ}
use Rattle.std.proofs.Common.{true, false, List, length, ap, refl, sym, subst, arith}
use Rattle.std.proofs.lemmas.List.{length-append}
use Rattle.can_frame.specs.Frame.{id_limit}
use Rattle.can_levels.specs.declared.level.Level.{Level}
use Rattle.can_levels.specs.declared.level.Level.TheVariants.{Dominant, Recessive}
use Rattle.can_levels.specs.Digits.{digit, level_of, bits}
use Rattle.can_levels.specs.Body.{head_bits}
use Rattle.can_bits.specs.Packing.{Packs}
use Rattle.can_levels.proofs.Values.{digit-lt, length-bits, value-append-bits}
use Rattle.can_bits.proofs.Packing.Bodies.{packs_start, bits_digit, head_standard, head_extended}
use Rattle.can_bits.proofs.sent_body.SentBody.head_of.Goals as goal

-- how long levels are with some digits more
longer : (b : List Level) (n x m : ℕ) → length b ≡ m → length (b ++ bits n x) ≡ m + n
longer b n x m h = omega (arith, h, length-append b (bits n x), length-bits n x)

-- the word with some digits more
packed_more : {word place more there : ℕ} {b : List Level} (n x : ℕ) → Packs word place b →
    Packs more there (b ++ bits n x) → x < 2 ^ n → more ≡ word * 2 ^ n + x
packed_more {b = b} n x before after small =
    after.word_is ∙ value-append-bits n b x small ∙ ap (λ m. m * 2 ^ n + x) (sym before.word_is)

-- `srr` proves nothing here: by it a wrong body is refused with values
pub returns-then-ext : goal.returns-then-ext
returns-then-ext c =
    let f = c.args.frame.now in
    let rtr : Level = level_of f.rtr in
    let r = c.from-rtr.result in
    let bit : r ≡ digit rtr = grind arith in
    let extended : f.ext ≡ true = sym c.ext.ensures ∙ c.if-ext.true in
    let small : f.id < 2 ^ 29 = subst (λ e. f.id < id_limit e) extended c.id.ensures.valid.id in
    let value = c.id.ensures.value in
    let again = c.id-then-ext.ensures.value in
    let w0 : List Level = Dominant ∷ [] in
    let w1 = w0 ++ bits 11 (c.id.result / 2 ^ 18) in
    let w2 = w1 ++ bits 2 3 in
    let w3 = w2 ++ bits 18 (c.id-then-ext.result % 2 ^ 18) in
    let w4 = w3 ++ bits 1 r in
    let n1 : length w1 ≡ 12 = longer w0 11 (c.id.result / 2 ^ 18) 1 refl in
    let n2 : length w2 ≡ 14 = longer w1 2 3 12 n1 in
    let n3 : length w3 ≡ 32 = longer w2 18 (c.id-then-ext.result % 2 ^ 18) 14 n2 in
    let n4 : length w4 ≡ 33 = longer w3 1 r 32 n3 in
    let p1 = c.followed_by.ensures w0 packs_start (omega arith) (omega (arith, small, value)) in
    let p2 = c.followed_by-base.ensures w1 p1 (omega (arith, n1)) (omega arith) in
    let srr : c.followed_by-base.result.word ≡ c.followed_by.result.word * 4 + 3 =
    omega (arith, packed_more _ _ p1 p2 (omega arith)) in
    let p3 = c.followed_by-then-ext.ensures w2 p2 (omega (arith, n2)) (omega arith) in
    let p4 = c.followed_by-then-ext-2.ensures w3 p3 (omega (arith, n3)) (omega (arith, bit, digit-lt rtr)) in
    let p5 = c.followed_by-then-ext-3.ensures w4 p4 (omega (arith, n4)) (omega arith) in
    let P : List Level → Type 0 =
    λ l. Packs c.followed_by-then-ext-3.result.word c.followed_by-then-ext-3.result.length l in
    let ids : w4 ++ bits 2 0 ≡ ((((w0 ++ bits 11 (f.id / 2 ^ 18)) ++ bits 2 3) ++ bits 18 (f.id % 2 ^ 18)) ++ bits 1 r)
    ++ bits 2 0 =
    ap (λ i. ((((w0 ++ bits 11 (i / 2 ^ 18)) ++ bits 2 3) ++ bits 18 (c.id-then-ext.result % 2 ^ 18)) ++ bits 1 r)
    ++ bits 2 0) value
    ∙ ap (λ i. ((((w0 ++ bits 11 (f.id / 2 ^ 18)) ++ bits 2 3) ++ bits 18 (i % 2 ^ 18)) ++ bits 1 r) ++ bits 2 0)
    again in
    let whole = ids ∙ head_extended f.id f.rtr r small (ap (λ n. bits 1 n) bit ∙ bits_digit rtr)
    ∙ ap (λ e. head_bits e f.id f.rtr Recessive Dominant Dominant) (sym extended) in
    subst P whole p5

pub returns-else-ext : goal.returns-else-ext
returns-else-ext c =
    let f = c.args.frame.now in
    let rtr : Level = level_of f.rtr in
    let r = c.from-rtr.result in
    let bit : r ≡ digit rtr = grind arith in
    let standard : f.ext ≡ false = sym c.ext.ensures ∙ c.if-ext.false in
    let small : f.id < 2 ^ 11 = subst (λ e. f.id < id_limit e) standard c.id-else-ext.ensures.valid.id in
    let value = c.id-else-ext.ensures.value in
    let w0 : List Level = Dominant ∷ [] in
    let w1 = w0 ++ bits 11 c.id-else-ext.result in
    let w2 = w1 ++ bits 1 r in
    let n1 : length w1 ≡ 12 = longer w0 11 c.id-else-ext.result 1 refl in
    let n2 : length w2 ≡ 13 = longer w1 1 r 12 n1 in
    let p1 = c.followed_by-else-ext.ensures w0 packs_start (omega arith) (omega (arith, small, value)) in
    let p2 = c.followed_by-else-ext-2.ensures w1 p1 (omega (arith, n1)) (omega (arith, bit, digit-lt rtr)) in
    let p3 = c.followed_by-else-ext-3.ensures w2 p2 (omega (arith, n2)) (omega arith) in
    let P : List Level → Type 0 =
    λ l. Packs c.followed_by-else-ext-3.result.word c.followed_by-else-ext-3.result.length l in
    let whole =
    ap (λ i. ((w0 ++ bits 11 i) ++ bits 1 r) ++ bits 2 0) value
    ∙ head_standard f.id f.rtr r (ap (λ n. bits 1 n) bit ∙ bits_digit rtr)
    ∙ ap (λ e. head_bits e f.id f.rtr Recessive Dominant Dominant) (sym standard) in
    subst P whole p3
