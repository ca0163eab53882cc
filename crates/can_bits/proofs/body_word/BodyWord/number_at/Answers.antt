use Rattle.std.proofs.Common.{◌≡◌, ◌+◌, ◌-◌, ◌*◌, ◌/◌, ◌%◌, ◌^◌, ◌∙◌, ◌≤◌, ℕ, length, ap, arith}
use Rattle.std.proofs.Math.Pow.{pow_mono}
use Rattle.can_levels.specs.Digits.{value}
use Rattle.can_bits.proofs.Packing.Numbers.{value_range}
use Rattle.can_bits.proofs.body_word.BodyWord.number_at.Goals as goal

pub returns-clause-value : goal.returns-clause-value
returns-clause-value c w h within =
    let s = c.args.self.now in
    let end : ℕ = c.args.from + c.args.count in
    let count = h.place_is in
    let room = h.room in
    let below = c.saturating_sub-below.ensures in
    let shift : c.saturating_sub-below.result % 128 ≡ length w - end = omega (arith, count, room, below, within) in
    let few : 2 ^ c.args.count ≤ 2 ^ 18 = pow_mono c.requires.few in
    let modulus : 1 * 2 ^ c.args.count % 2 ^ 128 ≡ 2 ^ c.args.count = omega (arith, few) in
    let width : c.args.count ≡ end - c.args.from = omega arith in
    ap (λ n. n / 2 ^ (c.saturating_sub-below.result % 128) % (1 * 2 ^ c.args.count % 2 ^ 128)) h.word_is
    ∙ ap (λ k. value w / 2 ^ k % (1 * 2 ^ c.args.count % 2 ^ 128)) shift
    ∙ ap (λ m. value w / 2 ^ (length w - end) % m) modulus
    ∙ ap (λ k. value w / 2 ^ (length w - end) % 2 ^ k) width
    ∙ value_range w c.args.from end (omega arith) within
