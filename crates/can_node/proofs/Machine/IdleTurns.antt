-- One bit where the bus is idle, as the node has it.
use Rattle.std.proofs.Common.{◌≡◌, Bool, true, false, Option, Some, None, is_some, List}
use Rattle.std.proofs.Common.{[], ◌∷◌, ◌++◌, refl, ap, sym, subst, ◌∙◌, if◌then◌else◌}
use Rattle.can_levels.specs.declared.level.Level.{Level}
use Rattle.can_levels.specs.declared.level.Level.TheVariants.{Dominant, Recessive}
use Rattle.can_bits.specs.declared.shift.Shift.{Shift}
use Rattle.can_levels.specs.Fields.{is_recessive}
use Rattle.can_levels.proofs.Values.{recessive_by, dominant_by}
use Rattle.can_frame.specs.Frame.{IsFrame}
use Rattle.can_bits.specs.Shifts.{StandsFor}
use Rattle.can_node_rules.specs.declared.role.Role.{Role}
use Rattle.can_node_rules.specs.declared.role.Role.TheVariants.{Transmitter, Receiver}
use Rattle.can_node_rules.specs.declared.request.Request.{Request}
use Rattle.can_node.specs.declared.after_bit.AfterBit.{AfterBit}
use Rattle.can_node_rules.specs.Bits.{Bit, recessive_bit}
use Rattle.can_node_rules.specs.Context.{ContextValue}
use Rattle.can_node_rules.specs.Pieces.{sent_at}
use Rattle.can_node_rules.specs.Pieces.Place.{AtIdle}
use Rattle.can_node_rules.specs.Pieces.Piece.{IdleBit}
use Rattle.can_node_rules.specs.Counting.{first_bit, lost_by}
use Rattle.can_node_rules.specs.Table.{Row}
use Rattle.can_node_rules.specs.Table.Row.{idle}
use Rattle.can_node_rules.specs.Driving.{IdleDrives, TransmitsNext}
use Rattle.can_node.specs.Stages.{IsReading}
use Rattle.can_node_rules.specs.UnfinishedPieces.{ByRole, IsReceiving}
use Rattle.can_node_rules.specs.UnfinishedPieces.IsFramePlace.{idle_place}
use Rattle.can_node_rules.specs.UnfinishedPieces.IsInFrame.{from_idle}
use Rattle.can_node.specs.Inside.Turns.{IsMade, IsTurn, TransmitsBit}
use Rattle.can_node.proofs.Machine.FrameTurns.{one_request, transmitted_made}
use Rattle.can_node_rules.proofs.Transmission.TransmitterFronts.{transmits_from_idle, sends_start}
use Rattle.can_node_rules.proofs.Reception.Beginnings.{receives_from_idle}
use Rattle.can_node_rules.proofs.Bits.SentParts.{sends_parts}

-- ---- a frame that begins where the bus is idle

-- and nothing is lost in it
dominant_keeps : (request : Request) (x : Level) → false ≡ is_some (lost_by (Some request) [] Dominant x)
dominant_keeps request Dominant = refl
dominant_keeps request Recessive = refl

-- an own one
idle_transmits : (shift new : Shift) (now : ContextValue) (request : Request) (driven seen : Level) (self_test : Bool)
    (turn : AfterBit) →
    IsFrame request.frame → now.held ≡ Some request → now.listen ≡ false → self_test ≡ now.self_test →
    StandsFor shift [] → driven ≡ Dominant →
    ((l : List Level) → StandsFor shift l → StandsFor new (l ++ seen ∷ [])) →
    TransmitsBit shift request self_test false driven seen turn →
    IsMade new now (record now { role = Transmitter }) AtIdle (record { driven = driven; seen = seen } ∷ []) turn
idle_transmits shift new now request driven seen self_test turn fits held speaks strict stood first stands
    transmits_on =
    let b : Bit = record { driven = driven; seen = seen } in
    let sent : sent_at now AtIdle ≡ Some request = ap (λ t. if t then None else now.held) speaks ∙ held in
    let h = transmits_from_idle now now request fits sent held speaks in
    let Transmits : Level → Type 0 = λ x. TransmitsNext h.request [] x in
    let Lost : Level → Type 0 = λ x. false ≡ is_some (lost_by (Some h.request) [] x seen) in
    let told = transmits_on now now AtIdle [] stood idle_place strict h (one_request (sym held ∙ h.held))
    (subst Transmits (sym first) (sends_start now now h))
    (subst Lost (sym first) (dominant_keeps h.request seen)) in
    transmitted_made false turn new now now (record now { role = Transmitter }) AtIdle (b ∷ []) refl (λ e. refl)
    (from_idle b []) (stands [] stood) told

-- the same for a node that sends
pub idle_sends : (shift new : Shift) (now : ContextValue) (request : Request) (driven seen : Level) (self_test : Bool)
    (turn : AfterBit) →
    sent_at now AtIdle ≡ Some request → ((request : Request) → now.held ≡ Some request → IsFrame request.frame) →
    self_test ≡ now.self_test → StandsFor shift [] →
    IdleDrives (sent_at now AtIdle) driven → ((l : List Level) → StandsFor shift l → StandsFor new (l ++ seen ∷ [])) →
    TransmitsBit shift request self_test false driven seen turn →
    IsTurn new now now AtIdle [] (record { driven = driven; seen = seen }) turn
idle_sends shift new now request driven seen self_test turn sent fits strict stood drives stands transmits_on =
    let parts = sends_parts now.listen now.held request sent in
    let Driving : Option Request → Type 0 = λ r. IdleDrives r driven in
    let Made : Option Request → Type 0 =
    λ r. IsMade new now (first_bit r now) AtIdle (record { driven = driven; seen = seen } ∷ []) turn in
    subst Made (sym sent)
    (idle_transmits shift new now request driven seen self_test turn (fits request parts.1) parts.1 parts.0 strict stood
    (subst Driving sent drives) stands transmits_on)

-- another node's frame begins
pub idle_begins : (new : Shift) (now : ContextValue) (seen : Level) → sent_at now AtIdle ≡ None → now.role ≡ Receiver →
    is_recessive seen ≡ false → StandsFor new (seen ∷ []) →
    IsReading new now (first_bit (sent_at now AtIdle) now) AtIdle (recessive_bit seen ∷ [])
idle_begins new now seen none receiver sees stands =
    let P : Level → Type 0 = λ x. IsReceiving now AtIdle (recessive_bit x ∷ []) in
    let Q : Role → Type 0 = λ r. ByRole r now now AtIdle (recessive_bit seen ∷ []) in
    let R : Option Request → Type 0 = λ r. IsReading new now (first_bit r now) AtIdle (recessive_bit seen ∷ []) in
    subst R (sym none) (record {
      site = from_idle (recessive_bit seen) [];
      stands = stands;
      by_role = subst Q (sym receiver) (subst P (sym (dominant_by seen sees)) (receives_from_idle now none));
    })

-- none begins
pub idle_still : (now : ContextValue) (seen : Level) → sent_at now AtIdle ≡ None → is_recessive seen ≡ true →
    Row now AtIdle (recessive_bit seen ∷ []) IdleBit AtIdle
idle_still now seen none sees =
    let P : Level → Type 0 = λ x. Row now AtIdle (recessive_bit x ∷ []) IdleBit AtIdle in
    subst P (sym (recessive_by seen sees)) (idle none)
