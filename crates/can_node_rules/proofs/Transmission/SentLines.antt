-- The line that a transmitter sends.
use Rattle.std.proofs.Common.{◌≡◌, List, ◌++◌, refl, sym, subst}
use Rattle.can_frame.specs.Frame.{FrameValue, IsFrame}
use Rattle.can_levels.specs.declared.level.Level.{Level}
use Rattle.can_levels.specs.declared.level.Level.TheVariants.{Dominant, Recessive}
use Rattle.can_levels.specs.Body.{sent_body}
use Rattle.can_levels.specs.Check.{Crc}
use Rattle.can_levels.specs.Stuffing.{Stuffed}
use Rattle.can_levels.proofs.Checks.{Crc-unique, Crc_exists}
use Rattle.can_levels.proofs.Going.{stuffing_of}
use Rattle.can_levels.proofs.OneStuffing.{stuffing-unique}
use Rattle.can_node_rules.specs.Frames.{SentPart}

-- a frame has one sent line
pub sent_part_once : (f : FrameValue) (c d s t : List Level) → SentPart f c s → SentPart f d t → (c ≡ d) × (s ≡ t)
sent_part_once f c d s t h k =
    let same : c ≡ d = Crc-unique (sent_body f) c d h.right k.right in
    let P : List Level → Type 0 = λ e. Stuffed (sent_body f ++ e) t in
    (same, stuffing-unique (sent_body f ++ c) s t h.is_part.stuffed (subst P (sym same) k.is_part.stuffed))

-- it is made of the body, the CRC sequence and the stuff bits
pub sent_part_by : (f : FrameValue) (c part : List Level) → IsFrame f → Crc (sent_body f) c →
    Stuffed (sent_body f ++ c) part → SentPart f c part
sent_part_by f c part frame right stuffed = record {
  is_part = record {
    frame = frame;
    body = (Recessive, Dominant, Dominant, refl);
    check = right.count;
    stuffed = stuffed;
  };
  right = right;
}

-- and each frame has one
pub sent_part_of : (f : FrameValue) → IsFrame f → (c : List Level) × (part : List Level) × SentPart f c part
sent_part_of f frame =
    let (c, right, only) = Crc_exists (sent_body f) in
    let (part, stuffed) = stuffing_of (sent_body f ++ c) in
    (c, part, sent_part_by f c part frame right stuffed)
