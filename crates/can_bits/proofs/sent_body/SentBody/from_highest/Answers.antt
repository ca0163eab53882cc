use Rattle.std.proofs.Common.{◌≡◌, ◌-◌, ◌%◌, ◌==◌, Some, ap, sym, arith}
use Rattle.std.proofs.lemmas.Bool.{lt-ltb}
use Rattle.can_levels.specs.Digits.{level_of}
use Rattle.can_levels.proofs.Packing.Words.{digit_from_top}
use Rattle.can_bits.proofs.sent_body.SentBody.from_highest.Goals as goal

pub returns : goal.returns
returns c place before room =
    let s = c.args.self.now in
    let left = c.saturating_sub.ensures in
    let up : c.saturating_sub.result % 128 ≡ 128 - s.length = omega (arith, left, before, room) in
    let place_is : (s.length - 1 - place) % 128 ≡ s.length - 1 - place = omega (arith, room) in
    rw (lt-ltb place s.length before, place_is, up)
    (ap (λ m. Some (level_of (m == 1))) (sym (digit_from_top s.word s.length place room before)))
