-- A record and its cut: a node starts, waits for eleven recessive levels, receives the frame of another node and
-- acknowledges it.
use Rattle.std.proofs.Common.{◌≡◌, false, [], ◌∷◌, ◌++◌, map, replicate, refl, arith}
use Rattle.can_levels.specs.declared.level.Level.TheVariants.{Dominant, Recessive}
use Rattle.can_node_rules.specs.declared.config.Config.{Config}
use Rattle.can_node_rules.specs.Bits.{recessive_bit, recessive_bits}
use Rattle.can_node_rules.specs.Context.{fresh}
use Rattle.can_node_rules.specs.Pieces.Place.{AtIdle, AtLastEofBit, AtInterframeSpace}
use Rattle.can_node_rules.specs.Pieces.Piece.{Reception, LastEofBit, InterframeSpace}
use Rattle.can_node_rules.specs.Frames.{Receives}
use Rattle.can_node_rules.specs.Record.RecordEntry.{OneBit}
use Rattle.can_node_rules.specs.Table.Row.{other, last_eof_bit, interframe_space}
use Rattle.can_node_rules.specs.Cut.{Move, IsCut}
use Rattle.can_node_rules.specs.Cut.IsOpenAt.{nothing}
use Rattle.can_node_rules.specs.Cut.From.{here, on}
use Rattle.can_node_rules.specs.declared.phase.Phase.TheVariants.{Idle as IdlePhase}
use Rattle.can_node_rules.specs.NextBit.{now_in, phase_in}
use Rattle.can_node_rules.specs.WorkedReception.{zero_frame, after_sof, answered, record_of_reception}
use Rattle.can_node_rules.specs.WorkedReception.{pieces_of_reception}
use Rattle.can_node_rules.proofs.Reception.Acknowledging.{line_received}
use Rattle.can_node_rules.proofs.OneCut.Slices.{by_bits, begins_idle}
use Rattle.can_node_rules.proofs.Examples.LoneSender.{part, part_sent}

-- they are a reception of the frame with the identifier 0
receives_it : Receives false (Dominant ∷ []) answered (Reception zero_frame) AtLastEofBit
receives_it =
    line_received false (Dominant ∷ []) (after_sof ++ Recessive ∷ []) part Dominant part_sent.is_part part_sent.right
    refl refl

-- the frame; the acknowledgement leaves the counter at 0
receives : Move fresh AtIdle (map OneBit (recessive_bit Dominant ∷ answered)) (Reception zero_frame ∷ []) fresh
    AtLastEofBit
receives =
    by_bits fresh AtIdle AtLastEofBit (Reception zero_frame) (recessive_bit Dominant) answered (other refl receives_it)
    (omega arith)

-- the seventh bit of its end
ends : Move fresh AtLastEofBit (OneBit (recessive_bit Recessive) ∷ []) (LastEofBit ∷ []) fresh AtInterframeSpace
ends = by_bits fresh AtLastEofBit AtInterframeSpace LastEofBit (recessive_bit Recessive) [] last_eof_bit (omega arith)

-- intermission
rests : Move fresh AtInterframeSpace (map OneBit (recessive_bits (replicate 3 Recessive))) (InterframeSpace ∷ []) fresh
    AtIdle
rests = by_bits fresh AtInterframeSpace AtIdle InterframeSpace (recessive_bit Recessive)
    (recessive_bits (replicate 2 Recessive)) interframe_space (omega arith)

-- its cut: all counters stay at 0
pub cut_of_reception : (config : Config) →
    (cut : IsCut (record_of_reception config) pieces_of_reception) × (now_in cut ≡ fresh) × (phase_in cut ≡ IdlePhase)
cut_of_reception config = (
  record {
    context = fresh;
    place = AtIdle;
    rest = [];
    from = begins_idle config (on receives (on ends (on rests (here nothing (omega arith)))));
  },
  refl,
  refl,
)
