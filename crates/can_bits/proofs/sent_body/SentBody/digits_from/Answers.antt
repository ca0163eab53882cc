use Rattle.std.proofs.Common.{◌≡◌, ◌+◌, ◌-◌, ◌%◌, ◌==◌, Some, ap, sym, arith}
use Rattle.std.proofs.lemmas.Bool.{lt-ltb}
use Rattle.can_levels.specs.Digits.{level_of}
use Rattle.can_levels.proofs.Packing.Words.{digit_from}
use Rattle.can_bits.proofs.sent_body.SentBody.digits_from.Goals as goal

pub returns-then-place-self : goal.returns-then-place-self
returns-then-place-self c k within before room =
    let s = c.args.self.now in
    let left = s.length - c.args.place in
    let here = c.if-place-self.true in
    let up : (128 - left % 128) % 128 ≡ 128 - left = omega (arith, here, room) in
    let place : (s.length - 1 - (c.args.place + k)) % 128 ≡ left - 1 - k = omega (arith, before, room) in
    rw (lt-ltb (c.args.place + k) s.length before, place, up)
    (ap (λ m. Some (level_of (m == 1))) (sym (digit_from s.word left k (omega (arith, room)) (omega (arith, before))
    within)))
