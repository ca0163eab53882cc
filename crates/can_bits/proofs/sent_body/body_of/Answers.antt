use Rattle.std.proofs.Common.{◌∙◌, ◌++◌, length, ap, sym, arith}
use Rattle.can_levels.specs.Digits.{bits}
use Rattle.can_levels.specs.Body.{sent_body}
use Rattle.can_levels.proofs.Values.{bits-value}
use Rattle.can_bits.proofs.Packing.Bodies.{sent_most}
use Rattle.can_bits.proofs.sent_body.body_of.Goals as goal

pub push_bits-requires : goal.push_bits-requires
push_bits-requires c =
    let packs = c.of-packed.ensures.packs in
    let place = packs.place_is in
    let room = packs.room in
    rw c.new-body.ensures (omega (arith, place, room))

pub returns-clause-value : goal.returns-clause-value
returns-clause-value c =
    let packs = c.of-packed.ensures.packs in
    let w = sent_body c.args.frame.now in
    let n = c.of-packed.result.length in
    c.push_bits.ensures.value ∙ ap (λ l. l ++ bits n c.of-packed.result.word) c.new-body.ensures
    ∙ ap (λ x. bits n x) packs.word_is ∙ bits-value n w (sym packs.place_is)

pub returns-clause-room : goal.returns-clause-room
returns-clause-room c =
    omega (arith, ap length (returns-clause-value c), sent_most c.args.frame.now c.of-packed.ensures.valid)
