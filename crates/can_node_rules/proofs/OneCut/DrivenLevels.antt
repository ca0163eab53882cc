-- A piece says one level for its next bit.
use Rattle.std.proofs.Common.{◌≡◌, ◌+◌, ◌-◌}
use Rattle.std.proofs.Common.{Option, Some, None, List}
use Rattle.std.proofs.Common.{[], ◌∷◌, ◌++◌, ap, sym, subst, ◌∙◌}
use Rattle.can_levels.specs.declared.level.Level.{Level}
use Rattle.can_levels.specs.declared.level.Level.TheVariants.{Dominant, Recessive}
use Rattle.can_levels.specs.Line.{tail}
use Rattle.lemmas.proofs.Lists.{append-cancel}
use Rattle.can_node_rules.specs.declared.role.Role.{Role}
use Rattle.can_node_rules.specs.declared.role.Role.TheVariants.{Transmitter, Receiver}
use Rattle.can_node_rules.specs.declared.request.Request.{Request}
use Rattle.can_node_rules.specs.Bits.{Bit, dominant_bit, seen_of, driven_of}
use Rattle.can_node_rules.specs.Context.{ContextValue}
use Rattle.can_node_rules.specs.Pieces.{Place, sent_at}
use Rattle.can_node_rules.specs.Pieces.Place.{AtReset, AtIntegration, AtIdle, AfterSof}
use Rattle.can_node_rules.specs.Pieces.Place.{AtLastEofBit, AtFlag, AtDelimiter, AtInterframeSpace}
use Rattle.can_node_rules.specs.Driving.{Drives, FrameDrives, IdleDrives, TransmitsNext}
use Rattle.can_node_rules.proofs.Transmission.SentLines.{sent_part_once}
use Rattle.can_node_rules.proofs.Reception.Acknowledging.{acknowledges_once}

-- ---- one level is driven

idle_once : (sent : Option Request) (x y : Level) → IdleDrives sent x → IdleDrives sent y → x ≡ y
idle_once None x y h k = h ∙ sym k
idle_once (Some request) x y h k = h ∙ sym k

sends_once : (request other : Request) (bits : List Bit) (x y : Level) → request ≡ other →
    TransmitsNext request bits x → TransmitsNext other bits y → x ≡ y
sends_once request other bits x y e h k =
    let P : Request → Type 0 = λ r. TransmitsNext r bits x in
    let g : TransmitsNext other bits x = subst P e h in
    let part = (sent_part_once other.frame g.check k.check g.part k.part g.is_part k.is_part).1 in
    let whole : driven_of bits ++ x ∷ g.rest ≡ driven_of bits ++ y ∷ k.rest =
    sym g.whole ∙ ap (λ p. p ++ tail Recessive) part ∙ k.whole in
    let same = append-cancel (driven_of bits) (x ∷ g.rest) (y ∷ k.rest) whole in
    cc

frame_once : (role : Role) (c : ContextValue) (bits : List Bit) (x y : Level) → FrameDrives role c bits x →
    FrameDrives role c bits y → x ≡ y
frame_once Transmitter c bits x y h k =
    let whole : Some h.0 ≡ Some k.0 = sym h.1 ∙ k.1 in
    let same : h.0 ≡ k.0 = cc in
    sends_once h.0 k.0 bits x y same h.2 k.2
frame_once Receiver c bits x y h k = acknowledges_once c.listen (seen_of bits) x y h k

pub drives_once : (c : ContextValue) (place : Place) (bits : List Bit) (x y : Level) → Drives c place bits x →
    Drives c place bits y → x ≡ y
drives_once c AtReset bits x y h k = h ∙ sym k
drives_once c AtIntegration bits x y h k = h ∙ sym k
drives_once c AtIdle [] x y h k = idle_once (sent_at c AtIdle) x y h k
drives_once c AtIdle (b ∷ bits) x y h k = frame_once c.role c (b ∷ bits) x y h k
drives_once c AfterSof bits x y h k = frame_once c.role c (dominant_bit Dominant ∷ bits) x y h k
drives_once c AtLastEofBit bits x y h k = h ∙ sym k
drives_once c AtFlag bits x y h k = h ∙ sym k
drives_once c AtDelimiter bits x y h k = h ∙ sym k
drives_once c AtInterframeSpace bits x y h k = h ∙ sym k
