-- The two places where a frame may stand: on an idle bus, and after SOF in interframe space.
use Rattle.std.proofs.Common.{◌≡◌, Some, List, [], ◌∷◌, ◌++◌, refl, ap, ◌∙◌}
use Rattle.can_node_rules.specs.declared.request.Request.{Request}
use Rattle.can_node_rules.specs.Bits.{Bit, seen_of}
use Rattle.can_node_rules.specs.Context.{ContextValue}
use Rattle.can_node_rules.specs.Frames.{Transmits}
use Rattle.can_node_rules.specs.Pieces.{Place, Piece, sent_at}
use Rattle.can_node_rules.specs.UnfinishedPieces.{IsFramePlace, frame_bits}
use Rattle.can_node_rules.specs.UnfinishedPieces.IsFramePlace.{idle_place, sof_place}
use Rattle.can_node_rules.specs.Table.{Row}
use Rattle.can_node_rules.specs.Table.Row.{own, own_begun}
use Rattle.can_node_rules.proofs.Bits.Seen.{seen-append}

-- a transmitter's piece at such a place
pub row_own : (c : ContextValue) (place : Place) (request : Request) (bits : List Bit) (piece : Piece) (next : Place) →
    IsFramePlace place → sent_at c place ≡ Some request →
    Transmits c.self_test request (frame_bits place bits) piece next → Row c place bits piece next
row_own c place request bits piece next idle_place sent h = own sent h
row_own c place request bits piece next sof_place sent h = own_begun sent h

-- more bits of a frame
pub frame_more : (place : Place) (bits more : List Bit) → IsFramePlace place →
    frame_bits place (bits ++ more) ≡ frame_bits place bits ++ more
frame_more place bits more idle_place = refl
frame_more place bits more sof_place = refl

-- what was seen of it with one bit more
pub frame_seen : (place : Place) (bits : List Bit) (b : Bit) → IsFramePlace place →
    seen_of (frame_bits place (bits ++ b ∷ [])) ≡ seen_of (frame_bits place bits) ++ b.seen ∷ []
frame_seen place bits b site =
    ap (λ l. seen_of l) (frame_more place bits (b ∷ []) site) ∙ seen-append (frame_bits place bits) (b ∷ [])
