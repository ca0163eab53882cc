use Rattle.std.proofs.Common.{◌≡◌, ◌-◌, ◌/◌, ◌%◌, ◌^◌, ◌==◌, ◌∙◌, length, ap, arith}
use Rattle.can_levels.specs.Digits.{level_of, value}
use Rattle.can_bits.proofs.Packing.Numbers.{level_packed}
use Rattle.can_bits.proofs.body_word.BodyWord.level_at.Goals as goal

pub returns-then-place-self : goal.returns-then-place-self
returns-then-place-self c w h =
    let s = c.args.self.now in
    let count = h.place_is in
    let room = h.room in
    let before = c.if-place-self.true in
    let shift : (s.place - 1 - c.args.place) % 128 ≡ length w - 1 - c.args.place = omega (arith, count, room) in
    c.of.ensures ∙ ap (λ n. level_of (n / 2 ^ ((s.place - 1 - c.args.place) % 128) % 2 == 1)) h.word_is
    ∙ ap (λ k. level_of (value w / 2 ^ k % 2 == 1)) shift ∙ level_packed w c.args.place (omega (arith, count, before))
