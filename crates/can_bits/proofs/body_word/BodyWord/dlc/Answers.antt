use Rattle.std.proofs.Common.{◌≡◌, ◌+◌, ◌-◌, ◌∙◌, slice_range, ap, sym, arith}
use Rattle.can_levels.specs.Digits.{value}
use Rattle.can_levels.specs.Fields.{says_ext, dlc_place}
use Rattle.can_levels.proofs.Whole.Decoding.{four_is}
use Rattle.can_bits.proofs.body_word.BodyWord.dlc.Goals as goal

pub returns-clause-value : goal.returns-clause-value
returns-clause-value c w h come =
    let p = dlc_place (says_ext w) in
    let head = c.head_end.ensures.value w h in
    let place : c.head_end.result - 4 ≡ p = omega (arith, head) in
    c.number_at.ensures.value w h (omega (arith, place, come)) ∙ ap (λ n. value (slice_range w n (n + 4))) place
    ∙ sym (four_is w p come)
