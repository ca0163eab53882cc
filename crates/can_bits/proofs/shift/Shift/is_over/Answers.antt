use Rattle.std.proofs.Common.{◌≡◌, ◌+◌, length, refl, arith}
use Rattle.can_levels.specs.Line.{tail}
use Rattle.can_bits.proofs.DueLemmas.{over_by, over_readable, past_length}
use Rattle.can_levels.proofs.LineEnds.{over_part}
use Rattle.can_bits.proofs.shift.Shift.is_over.Goals as goal

-- `ten` proves nothing here: by it a wrong body is refused with values
pub returns : goal.returns
returns c l h = (
  λ t. let past = c.is_past.ensures.yes l h t in
      let ten : length l ≡ length past.part + 10 = omega (arith, past_length l past) in over_by l past,
  λ over. let but = over.1 in
      c.is_past.ensures.only over.0 l but.body but.check but.line.part (tail but.ack) h (over_readable l over)
      but.line.is_part (over_part l over) refl,
)
