-- What a node drives in a frame, and what it knows of its next bit.
use Rattle.std.proofs.Common.{◌≡◌, ℕ, length, Bool, Option, Some, List, ◌∷◌, ◌++◌, ap, sym, subst, ◌∙◌}
use Rattle.can_levels.specs.declared.level.Level.{Level}
use Rattle.can_levels.specs.declared.level.Level.TheVariants.{Dominant, Recessive}
use Rattle.can_bits.specs.declared.shift.Shift.{Shift}
use Rattle.can_levels.specs.Body.{sent_body}
use Rattle.can_levels.specs.Check.{Crc}
use Rattle.can_levels.specs.Line.{StuffedPart, tail}
use Rattle.can_levels.specs.Places.{place_code}
use Rattle.can_bits.specs.Shifts.{StandsFor}
use Rattle.can_levels.specs.Streaming.{IsReadable}
use Rattle.can_node_rules.specs.declared.role.Role.{Role}
use Rattle.can_node_rules.specs.declared.role.Role.TheVariants.{Transmitter, Receiver}
use Rattle.can_node_rules.specs.declared.request.Request.{Request}
use Rattle.can_node_rules.specs.Bits.{Bit, seen_of, driven_of}
use Rattle.can_node_rules.specs.Context.{ContextValue}
use Rattle.can_node_rules.specs.Pieces.{Place}
use Rattle.can_node_rules.specs.Counting.{lost_by}
use Rattle.can_node_rules.specs.Events.{lost_in, lost_as}
use Rattle.can_node_rules.specs.Frames.{Acknowledges}
use Rattle.can_node_rules.specs.Driving.{Drives, FrameDrives, TransmitsNext}
use Rattle.can_node.specs.Stages.{IsReading}
use Rattle.can_node_rules.specs.UnfinishedPieces.{frame_bits}
use Rattle.can_node.proofs.Machine.FrameTurns.{lost_at, transmitting_by, transmitting_readable}
use Rattle.can_node_rules.proofs.Bits.FrameSites.{drives_frame}
use Rattle.can_node_rules.proofs.Transmission.TransmitterFronts.{transmitting_next}

-- a place code of its frame
pub code_by : (shift : Shift) (c now : ContextValue) (place : Place) (bits : List Bit) (driven seen : Level)
    (request : Request) (ext : Bool) (code : Option ℕ) → ext ≡ request.frame.ext →
    now.role ≡ Transmitter → IsReading shift c now place bits → now.held ≡ Some request → driven ≡ Recessive →
    seen ≡ Dominant →
    ((l : List Level) → StandsFor shift l → IsReadable l → code ≡ place_code ext l) →
    code ≡ lost_in now place bits (record { driven = driven; seen = seen })
code_by shift c now place bits driven seen request ext code kind transmitter reading held drives sees f =
    let b : Bit = record { driven = driven; seen = seen } in
    let l = seen_of (frame_bits place bits) in
    let h = transmitting_by shift c now place bits transmitter reading in
    let there : lost_in now place bits b ≡ lost_by (Some request) l Recessive Dominant =
    lost_at now place bits b reading.site ∙ ap (λ r. lost_as r now l b) transmitter
    ∙ ap (λ r. lost_by r l driven seen) held
    ∙ ap (λ x. lost_by (Some request) l x seen) drives ∙ ap (λ x. lost_by (Some request) l Recessive x) sees in
    f l reading.stands (transmitting_readable c now place bits h) ∙ ap (λ e. place_code e l) kind ∙ sym there

-- ---- what the node drives

-- a transmitter
pub transmitting_drives : (shift : Shift) (c now : ContextValue) (place : Place) (bits : List Bit) (request : Request)
    (x : Level) →
    now.role ≡ Transmitter → IsReading shift c now place bits → now.held ≡ Some request →
    ((l others check part before rest : List Level) (y ack : Level) → StandsFor shift l →
    StuffedPart request.frame (sent_body request.frame) check part →
    Crc (sent_body request.frame) check → part ++ tail ack ≡ l ++ others → part ++ tail Recessive ≡ before ++ y ∷ rest →
    length before ≡ length l → x ≡ y) →
    Drives now place bits x
transmitting_drives shift c now place bits request x transmitter reading held f =
    let h = transmitting_by shift c now place bits transmitter reading in
    let whole : Some request ≡ Some h.request = sym held ∙ h.held in
    let same : request ≡ h.request = cc in
    let next = transmitting_next c now place bits h in
    let bits = frame_bits place bits in
    let F : Request → Type 0 = λ r. (l others check part before rest : List Level) (y ack : Level) → StandsFor shift l →
    StuffedPart r.frame (sent_body r.frame) check part →
    Crc (sent_body r.frame) check → part ++ tail ack ≡ l ++ others → part ++ tail Recessive ≡ before ++ y ∷ rest →
    length before ≡ length l → x ≡ y in
    let drives : x ≡ next.level =
    subst F same f (seen_of bits) next.others next.check next.part (driven_of bits) next.rest next.level next.ack
    reading.stands next.is_part next.right next.seen next.driven next.count in
    let Transmits : Level → Type 0 = λ y. TransmitsNext h.request bits y in
    let Driving : Role → Type 0 = λ r. FrameDrives r now bits x in
    drives_frame now place _ x reading.site
    (subst Driving (sym transmitter) (h.request, h.held, subst Transmits (sym drives) next.sends))

-- a receiver
pub receiving_drives : (shift : Shift) (c now : ContextValue) (place : Place) (bits : List Bit) (x : Level) →
    now.role ≡ Receiver → IsReading shift c now place bits →
    (StandsFor shift (seen_of (frame_bits place bits)) →
    Acknowledges now.listen (seen_of (frame_bits place bits)) x) →
    Drives now place bits x
receiving_drives shift c now place bits x receiver reading f =
    let Driving : Role → Type 0 = λ r. FrameDrives r now (frame_bits place bits) x in
    drives_frame now place bits x reading.site (subst Driving (sym receiver) (f reading.stands))
