use Rattle.std.proofs.Common.{◌∷◌, [], ◌++◌, refl, sym, ◌∙◌}
use Rattle.can_node_rules.specs.Bits.{seen_of}
use Rattle.can_node_rules.specs.UnfinishedPieces.{frame_bits}
use Rattle.can_node.proofs.Machine.FrameTurns.{transmitting_readable}
use Rattle.can_node_rules.proofs.Transmission.OwnBits.{own_bit_by}
use Rattle.can_node.proofs.Transmission.TransmitterBits.{transmits_fault, transmits_sent, transmits_on}
use Rattle.can_node.proofs.transmit.transmit.Goals as goal

pub returns-in-Some-clause-turn : goal.returns-in-Some-clause-turn
returns-in-Some-clause-turn c = λ context now place bits stands site same h one sends lost.
    let own = c.own_bit-kind.ensures (seen_of (frame_bits place bits)) stands
    (transmitting_readable context now place bits h) in
    let told = own_bit_by c.args.request.now site same h one sends lost c.ext.ensures own
    (sym c.in-Some.is ∙ c.error_in.ensures) in
    transmits_fault c.next_segment-segment.result told.1
    (c.next_segment-segment.ensures (seen_of (frame_bits place bits)) stands)

pub returns-then-is_over-clause-turn : goal.returns-then-is_over-clause-turn
returns-then-is_over-clause-turn c = λ context now place bits stands site same h one sends lost.
    let own = c.own_bit-kind.ensures (seen_of (frame_bits place bits)) stands
    (transmitting_readable context now place bits h) in
    let told = own_bit_by c.args.request.now site same h one sends lost c.ext.ensures own
    (sym c.in-None.is ∙ c.error_in.ensures) in
    transmits_sent c.args.lost c.is_over.result told.1 c.copy.result (c.copy.ensures ∙ one ∙ sym told.2)
    (c.is_over.ensures (seen_of (frame_bits place bits) ++ c.args.seen ∷ [])
    (c.advance-in-None.ensures.stands (seen_of (frame_bits place bits)) stands))
    c.if-is_over.true

pub returns-else-is_over-clause-turn : goal.returns-else-is_over-clause-turn
returns-else-is_over-clause-turn c = λ context now place bits stands site same h one sends lost.
    let own = c.own_bit-kind.ensures (seen_of (frame_bits place bits)) stands
    (transmitting_readable context now place bits h) in
    let told = own_bit_by c.args.request.now site same h one sends lost c.ext.ensures own
    (sym c.in-None.is ∙ c.error_in.ensures) in (
      refl,
      transmits_on c.args.lost c.is_over.result told.1
          (c.is_over.ensures (seen_of (frame_bits place bits) ++ c.args.seen ∷ [])
          (c.advance-in-None.ensures.stands (seen_of (frame_bits place bits)) stands))
          c.if-is_over.false,
    )
