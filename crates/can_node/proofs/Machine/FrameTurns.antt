-- One bit of a frame, as the node has it.
use Rattle.std.proofs.Common.{◌≡◌, Bool, true, false, Some, is_some, List, []}
use Rattle.std.proofs.Common.{◌∷◌, ◌++◌, refl, ap, sym, subst, ◌∙◌, if◌then◌else◌}
use Rattle.can_levels.specs.declared.level.Level.{Level}
use Rattle.can_bits.specs.declared.shift.Shift.{Shift}
use Rattle.can_bits.specs.Shifts.{StandsFor}
use Rattle.can_levels.specs.Streaming.{IsReadable}
use Rattle.can_node_rules.specs.declared.role.Role.{Role}
use Rattle.can_node_rules.specs.declared.role.Role.TheVariants.{Transmitter, Receiver}
use Rattle.can_node_rules.specs.declared.request.Request.{Request}
use Rattle.can_node.specs.declared.stage.Stage.{Stage}
use Rattle.can_node.specs.declared.after_bit.AfterBit.{AfterBit}
use Rattle.can_node.specs.declared.after_bit.AfterBit.TheVariants.{InPiece, Ended}
use Rattle.can_node_rules.specs.Bits.{Bit, seen_of}
use Rattle.can_node_rules.specs.Context.{ContextValue}
use Rattle.can_node_rules.specs.Pieces.{Place}
use Rattle.can_node_rules.specs.Counting.{at_bit, frame_bit, lost_by, lose}
use Rattle.can_node_rules.specs.Events.{lost_in, lost_as}
use Rattle.can_node_rules.specs.Frames.{Acknowledges}
use Rattle.can_node_rules.specs.Driving.{Drives, FrameDrives}
use Rattle.can_node_rules.specs.KeptContexts.{IsKept}
use Rattle.can_node.specs.Stages.{At, IsReading}
use Rattle.can_node_rules.specs.UnfinishedPieces.{ByRole, IsInFrame}
use Rattle.can_node_rules.specs.UnfinishedPieces.{IsReceiving, IsTransmitting, frame_bits}
use Rattle.can_node_rules.specs.UnfinishedPieces.IsInFrame.{from_idle, from_sof}
use Rattle.can_node.specs.Inside.Turns.{IsMade, IsTurn, ReceivesOn, TransmitsOn, TransmitsBit, ReceivesBit}
use Rattle.can_node_rules.proofs.Bits.FramePlaces.{frame_seen}
use Rattle.can_node_rules.proofs.Transmission.TransmitterFronts.{transmitting_kept, drives_sends}
use Rattle.can_node_rules.proofs.Transmission.WellNext.{well_readable}
use Rattle.can_node_rules.proofs.Bits.FrameSites.{place_of, still_in, frame_at, receives}

-- arbitration is lost there by its levels
pub lost_at : (now : ContextValue) (place : Place) (bits : List Bit) (b : Bit) → IsInFrame place bits →
    lost_in now place bits b ≡ lost_as now.role now (seen_of (frame_bits place bits)) b
lost_at now place bits b (from_idle x more) = refl
lost_at now place bits b (from_sof more) = refl

-- the node drives as in a frame
pub frame_drives : (now : ContextValue) (place : Place) (bits : List Bit) (x : Level) → IsInFrame place bits →
    Drives now place bits x →
    FrameDrives now.role now (frame_bits place bits) x
frame_drives now place bits x (from_idle y more) h = h
frame_drives now place bits x (from_sof more) h = h

-- ---- what a bit makes of it

-- what a receiver's bit makes of it
pub received_made : (turn : AfterBit) (shift : Shift) (c now : ContextValue) (place : Place) (bits : List Bit) →
    now.role ≡ Receiver → IsInFrame place bits →
    StandsFor shift (seen_of (frame_bits place bits)) → ReceivesOn c place bits turn →
    IsMade shift c now place bits turn
received_made (InPiece stage) shift c now place bits receiver site stands h =
    let P : Stage → Type 0 = λ s. At s shift c now place bits in
    let Q : Role → Type 0 = λ r. ByRole r c now place bits in
    subst P (sym h.0) (record { site = site; stands = stands; by_role = subst Q (sym receiver) h.1 })
received_made (Ended done) shift c now place bits receiver site stands row = row

-- a role after a bit in which arbitration was lost or not
abbrev pub role_if : Bool → Role
role_if true = Receiver
role_if false = Transmitter

-- what a transmitter's bit makes of it
pub transmitted_made : (lost : Bool) (turn : AfterBit) (shift : Shift) (c now other : ContextValue) (place : Place)
    (bits : List Bit) → other.role ≡ role_if lost →
    (lost ≡ false → other.held ≡ now.held) → IsInFrame place bits → StandsFor shift (seen_of (frame_bits place bits)) →
    TransmitsOn lost c now place bits turn →
    IsMade shift c other place bits turn
transmitted_made false (InPiece stage) shift c now other place bits role held site stands h =
    let P : Stage → Type 0 = λ s. At s shift c other place bits in
    let Q : Role → Type 0 = λ r. ByRole r c other place bits in
    subst P (sym h.0) (record {
      site = site;
      stands = stands;
      by_role = subst Q (sym role) (transmitting_kept c now other place bits (held refl) h.1);
    })
transmitted_made true (InPiece stage) shift c now other place bits role held site stands h =
    let P : Stage → Type 0 = λ s. At s shift c other place bits in
    let Q : Role → Type 0 = λ r. ByRole r c other place bits in
    subst P (sym h.0) (record { site = site; stands = stands; by_role = subst Q (sym role) h.1 })
transmitted_made false (Ended done) shift c now other place bits role held site stands h = h.1
transmitted_made true (Ended done) shift c now other place bits role held site stands h = let wrong : true ≡ false =
    h.0 in absurd cc

-- a transmitter's role and request after a bit
role_after : (lost : Bool) (c d : ContextValue) → c.role ≡ Transmitter → d.role ≡ Receiver →
    ((if lost then d else c).role ≡ role_if lost) × (lost ≡ false → (if lost then d else c).held ≡ c.held)
role_after true c d transmitter receiver = (receiver, λ wrong. absurd cc)
role_after false c d transmitter receiver = (transmitter, λ e. refl)

-- ---- the turns

-- a receiver's bit
pub receive_turn : (shift new : Shift) (c now : ContextValue) (place : Place) (bits : List Bit) (driven seen : Level)
    (turn : AfterBit) → now.role ≡ Receiver →
    IsReading shift c now place bits → IsKept place c now → Drives now place bits driven →
    ((l : List Level) → StandsFor shift l → StandsFor new (l ++ seen ∷ [])) →
    ReceivesBit shift driven seen turn →
    IsTurn new c now place bits (record { driven = driven; seen = seen }) turn
receive_turn shift new c now place bits driven seen turn receiver reading kept drives stands receives_on =
    let b : Bit = record { driven = driven; seen = seen } in
    let l = seen_of (frame_bits place bits) in
    let site = reading.site in
    let ByNow : Role → Type 0 = λ r. ByRole r c now place bits in
    let receiving : IsReceiving c place bits = subst ByNow receiver reading.by_role in
    let Driving : Role → Type 0 = λ r. FrameDrives r now (frame_bits place bits) driven in
    let answers : Acknowledges now.listen l driven =
    subst Driving receiver (frame_drives now place bits driven site drives) in
    let received = receives_on c place bits reading.stands receiving
    (subst (λ t. Acknowledges t l driven) kept.listen answers) in
    let Context : List Level → Type 0 = λ m. StandsFor new m in
    let stood = subst Context (sym (frame_seen place bits b (place_of place bits site))) (stands l reading.stands) in
    let Made : ContextValue → Type 0 = λ d. IsMade new c d place (bits ++ b ∷ []) turn in
    let After : Role → Type 0 = λ r. (frame_bit r now l b).role ≡ Receiver in
    let role : (frame_bit now.role now l b).role ≡ Receiver =
    subst After (sym receiver) (receives now driven seen ∙ receiver) in
    subst Made (sym (frame_at now place bits b site))
    (received_made turn new c (frame_bit now.role now l b) place (bits ++ b ∷ []) role (still_in place bits b site)
    stood received)

-- a request that is held is one
pub one_request : {a b : Request} → Some a ≡ Some b → a ≡ b
one_request e = cc

-- a transmitter's bit
pub transmit_turn : (shift new : Shift) (c now : ContextValue) (place : Place) (bits : List Bit) (driven seen : Level)
    (self_test lost : Bool) (request : Request) (turn : AfterBit) →
    now.role ≡ Transmitter → IsInFrame place bits → StandsFor shift (seen_of (frame_bits place bits)) →
    (h : IsTransmitting c now place bits) → self_test ≡ c.self_test → now.held ≡ Some request →
    Drives now place bits driven →
    lost ≡ is_some (lost_in now place bits (record { driven = driven; seen = seen })) →
    ((l : List Level) → StandsFor shift l → StandsFor new (l ++ seen ∷ [])) →
    TransmitsBit shift request self_test lost driven seen turn →
    IsTurn new c now place bits (record { driven = driven; seen = seen }) turn
transmit_turn shift new c now place bits driven seen self_test lost request turn transmitter site stood h strict held
    drives loses stands transmits_on =
    let b : Bit = record { driven = driven; seen = seen } in
    let l = seen_of (frame_bits place bits) in
    let Driving : Role → Type 0 = λ r. FrameDrives r now (frame_bits place bits) driven in
    let sends = drives_sends c now place bits driven h
    (subst Driving transmitter (frame_drives now place bits driven site drives)) in
    let same : lost ≡ is_some (lost_by now.held l driven seen) =
    loses ∙ ap is_some (lost_at now place bits b site) ∙ ap (λ r. is_some (lost_as r now l b)) transmitter in
    let told = transmits_on c now place bits stood (place_of place bits site) strict h (one_request (sym held ∙ h.held))
    sends (same ∙ ap (λ r. is_some (lost_by r l driven seen)) h.held) in
    let Context : List Level → Type 0 = λ m. StandsFor new m in
    let more = subst Context (sym (frame_seen place bits b (place_of place bits site))) (stands l stood) in
    let Made : ContextValue → Type 0 = λ d. IsMade new c d place (bits ++ b ∷ []) turn in
    let after = if lost then lose now else now in
    let whole : at_bit now place bits b ≡ after =
    frame_at now place bits b site ∙ ap (λ r. frame_bit r now l b) transmitter
    ∙ ap (λ t. if t then lose now else now) (sym same) in
    let parts = role_after lost now (lose now) transmitter refl in
    subst Made (sym whole)
    (transmitted_made lost turn new c now after place (bits ++ b ∷ []) parts.0 parts.1 (still_in place bits b site) more
    told)

-- what a transmitter has seen is readable
pub transmitting_readable : (c now : ContextValue) (place : Place) (bits : List Bit) → IsTransmitting c now place bits →
    IsReadable (seen_of (frame_bits place bits))
transmitting_readable c now place bits h =
    well_readable c.self_test h.request.frame h.check h.part (frame_bits place bits) h.is_part h.well

-- a transmitter's reading
pub transmitting_by : (shift : Shift) (c now : ContextValue) (place : Place) (bits : List Bit) →
    now.role ≡ Transmitter → IsReading shift c now place bits →
    IsTransmitting c now place bits
transmitting_by shift c now place bits e reading = let P : Role → Type 0 =
    λ r. ByRole r c now place bits in subst P e reading.by_role
