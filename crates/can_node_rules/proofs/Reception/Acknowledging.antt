-- A receiver drives dominant in one place alone, and what is sent is received.
use Rattle.can_node_rules.proofs.Bits.Slots.{due_here}
use Rattle.std.proofs.Common.{◌≡◌, Bool, true, false, List, [], ◌∷◌, ◌++◌}
use Rattle.std.proofs.Common.{replicate, refl, ap, sym, subst, ◌∙◌, append_assoc}
use Rattle.std.proofs.lemmas.List.{append-nil}
use Rattle.can_frame.specs.Frame.{FrameValue}
use Rattle.can_levels.specs.declared.level.Level.{Level}
use Rattle.can_levels.specs.declared.level.Level.TheVariants.{Dominant, Recessive}
use Rattle.can_levels.specs.Check.{Crc}
use Rattle.can_levels.specs.Line.{StuffedPart, tail}
use Rattle.lemmas.proofs.Lists.{append-cancel}
use Rattle.can_node_rules.specs.Bits.{Bit, recessive_bit, dominant_bit, recessive_bits, seen_of}
use Rattle.can_node_rules.specs.Pieces.Place.{AtLastEofBit}
use Rattle.can_node_rules.specs.Pieces.Piece.{Reception}
use Rattle.can_levels.specs.Acknowledging.{IsAckDue}
use Rattle.can_node_rules.specs.Frames.{Acknowledges, AllAcknowledge, AckFits, Receives}
use Rattle.can_node_rules.specs.Frames.Receives.{reception}
use Rattle.can_levels.proofs.NextOnce.{after_once}
use Rattle.can_node_rules.proofs.Bits.Seen.{seen-append, acknowledges_none, acknowledges_cons}
use Rattle.can_node_rules.proofs.Bits.DrivenAlike.{seen_received}

-- one line has one ACK slot
pub ack_due_once : (l rest : List Level) → IsAckDue l → IsAckDue (l ++ rest) → rest ≡ []
ack_due_once l rest h k =
    let longer : l ++ rest ≡ h.part ++ (Recessive ∷ rest) =
    ap (λ m. m ++ rest) h.whole ∙ append_assoc h.part (Recessive ∷ []) rest in
    let same : Recessive ∷ rest ≡ Recessive ∷ [] =
    after_once (l ++ rest) h.part k.part (Recessive ∷ rest) (Recessive ∷ []) h.is_part k.is_part longer k.whole in
    append-cancel (Recessive ∷ []) rest [] same

-- after the same levels a receiver drives one level
pub acknowledges_once : (listen : Bool) (l : List Level) (x y : Level) → Acknowledges listen l x →
    Acknowledges listen l y → x ≡ y
acknowledges_once true l x y h k = h ∙ sym k
acknowledges_once false l Dominant Dominant h k = refl
acknowledges_once false l Dominant Recessive h k = absurd (k h)
acknowledges_once false l Recessive Dominant h k = absurd (h k)
acknowledges_once false l Recessive Recessive h k = refl

-- where nothing is due it drives recessive, and so does one that only listens
pub quiet : (listen : Bool) (l : List Level) → (IsAckDue l → ⊥) → Acknowledges listen l Recessive
quiet true l none = refl
quiet false l none = none

-- up to the ACK slot it drives recessive
quiet_before : (listen : Bool) (l u : List Level) (bits : List Bit) → IsAckDue (l ++ u) →
    AllAcknowledge listen (l ++ u) bits → AllAcknowledge listen l (recessive_bits u ++ bits)
quiet_before listen l [] bits due h = subst (λ m. AllAcknowledge listen m bits) (append-nil l) h
quiet_before listen l (x ∷ u) bits due h =
    let P : List Level → Type 0 = λ m. AllAcknowledge listen m bits in
    let Q : List Level → Type 0 = λ m. IsAckDue m in
    let joined = sym (append_assoc l (x ∷ []) u) in
    acknowledges_cons listen l (recessive_bit x) (recessive_bits u ++ bits)
    (quiet listen l (λ early. let none = ack_due_once l (x ∷ u) early due in cc))
    (quiet_before listen (l ++ x ∷ []) u bits (subst Q joined due) (subst P joined h))

-- and after it
quiet_after : (listen : Bool) (l : List Level) (x : Level) (u v : List Level) → IsAckDue l →
    AllAcknowledge listen (l ++ x ∷ u) (recessive_bits v)
quiet_after listen l x u [] due = acknowledges_none listen (l ++ x ∷ u)
quiet_after listen l x u (y ∷ v) due =
    let P : List Level → Type 0 = λ m. AllAcknowledge listen m (recessive_bits v) in
    acknowledges_cons listen (l ++ x ∷ u) (recessive_bit y) (recessive_bits v)
    (quiet listen (l ++ x ∷ u) (λ late. let none = ack_due_once l (x ∷ u) due late in cc))
    (subst P (sym (append_assoc l (x ∷ u) (y ∷ []))) (quiet_after listen l x (u ++ y ∷ []) v due))

-- the bit of the ACK slot where this level is seen: a node that only listens leaves it recessive
abbrev pub slot_bit : Bool → Level → Bit
slot_bit true x = recessive_bit x
slot_bit false x = dominant_bit x

-- what it sees, and that it may drive so
slot_seen : (listen : Bool) (x : Level) → (slot_bit listen x).seen ≡ x
slot_seen true x = refl
slot_seen false x = refl

slot_acknowledges : (listen : Bool) (l : List Level) (x : Level) → IsAckDue l →
    Acknowledges listen l (slot_bit listen x).driven
slot_acknowledges true l x due = refl
slot_acknowledges false l x due = due

-- the bits of a receiver from the levels l on, where u is the rest of the stuffed part and the delimiter after it
abbrev pub reception_bits : Bool → Level → List Level → List Bit
reception_bits listen ack u = recessive_bits u ++ slot_bit listen ack ∷ recessive_bits (replicate 7 Recessive)

-- a line with a right CRC sequence is received, acknowledged unless the node only listens
pub line_received : {f : FrameValue} {b c : List Level} (listen : Bool) (l u part : List Level) (ack : Level) →
    StuffedPart f b c part → Crc b c → AckFits listen ack → l ++ u ≡ part ++ Recessive ∷ [] →
    Receives listen l (reception_bits listen ack u) (Reception f) AtLastEofBit
line_received {f = f} {b = b} {c = c} listen l u part ack h right fits e =
    let due = due_here (l ++ u) part h right e in
    let slot = slot_bit listen ack in
    let later = recessive_bits (replicate 7 Recessive) in
    let P : Level → Type 0 = λ x. AllAcknowledge listen ((l ++ u) ++ x ∷ []) later in
    let after : AllAcknowledge listen (l ++ u) (slot ∷ later) =
    acknowledges_cons listen (l ++ u) slot later (slot_acknowledges listen (l ++ u) ack due)
    (subst P (sym (slot_seen listen ack)) (quiet_after listen (l ++ u) ack [] (replicate 7 Recessive) due)) in
    let seen : seen_of (reception_bits listen ack u) ≡ u ++ ack ∷ replicate 7 Recessive =
    seen-append (recessive_bits u) (slot ∷ later) ∙ ap (λ m. m ++ seen_of (slot ∷ later)) (seen_received u)
    ∙ ap (λ x. u ++ x ∷ replicate 7 Recessive) (slot_seen listen ack) in
    let whole : (l ++ seen_of (reception_bits listen ack u)) ++ Recessive ∷ [] ≡ part ++ tail ack =
    ap (λ m. (l ++ m) ++ Recessive ∷ []) seen
    ∙ ap (λ m. m ++ Recessive ∷ []) (sym (append_assoc l u (ack ∷ replicate 7 Recessive)))
    ∙ ap (λ m. (m ++ ack ∷ replicate 7 Recessive) ++ Recessive ∷ []) e
    ∙ append_assoc (part ++ Recessive ∷ []) (ack ∷ replicate 7 Recessive) (Recessive ∷ [])
    ∙ append_assoc part (Recessive ∷ []) (ack ∷ replicate 8 Recessive) in
    reception
    (record {
      answers = quiet_before listen l u (slot ∷ later) due after;
      body = b;
      crc = c;
      ack = ack;
      line = record { part = part; is_part = h; whole = whole };
      right = right;
      fits = fits;
    })
