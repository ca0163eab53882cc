-- A transmitter within its frame: how it begins, what it drives next, and that it may go on to the end.
use Rattle.std.proofs.Common.{◌≡◌, ◌≢◌, inl, inr, Bool, false, Option, Some, List, [], ◌∷◌}
use Rattle.std.proofs.Common.{◌++◌, length, refl, ap, sym, subst, ◌∙◌, arith, append_assoc}
use Rattle.std.proofs.lemmas.List.{length-append, length-map, map-append}
use Rattle.can_frame.specs.Frame.{IsFrame}
use Rattle.can_levels.specs.declared.level.Level.{Level}
use Rattle.can_levels.specs.declared.level.Level.TheVariants.{Dominant, Recessive}
use Rattle.can_levels.specs.Body.{sent_body}
use Rattle.can_levels.specs.Check.{Crc}
use Rattle.can_levels.specs.Line.{StuffedPart, tail}
use Rattle.can_levels.proofs.Ending.{part_begins}
use Rattle.lemmas.proofs.Lists.{cases_list}
use Rattle.can_node_rules.specs.declared.request.Request.{Request}
use Rattle.can_node_rules.specs.declared.role.Role.TheVariants.{Transmitter}
use Rattle.can_node_rules.specs.Bits.{Bit, seen_of, driven_of}
use Rattle.can_node_rules.specs.Context.{ContextValue}
use Rattle.can_node_rules.specs.Cut.{IsUnfinished}
use Rattle.can_node_rules.specs.Driving.{TransmitsNext, FrameDrives}
use Rattle.can_node_rules.specs.Frames.{AckFits, SentPart, Transmits}
use Rattle.can_node_rules.specs.Frames.Transmits.{sending}
use Rattle.can_node_rules.specs.Pieces.{Place, sent_at}
use Rattle.can_node_rules.specs.Pieces.Place.{AtIdle, AfterSof, AtInterframeSpace}
use Rattle.can_node_rules.specs.Pieces.Piece.{Transmission}
use Rattle.can_node_rules.specs.UnfinishedPieces.{IsTransmitting, IsFramePlace, frame_bits}
use Rattle.can_node_rules.specs.Table.{Row}
use Rattle.can_node_rules.proofs.Bits.FramePlaces.{row_own, frame_more}
use Rattle.can_node_rules.proofs.Transmission.SentLines.{sent_part_of}
use Rattle.can_node_rules.proofs.Transmission.WellNext.{as_much_left}
use Rattle.can_node_rules.proofs.Transmission.WrongBits.{dominant_fits}

-- ---- the beginning

-- a tail isn't empty, whatever stands before it
some_tail : (front : List Level) → front ++ tail Recessive ≢ []
some_tail front e = omega (arith, ap length e, length-append front (tail Recessive))

-- of the line of its frame these levels came: none, or SOF
begun_transmitting : (c now : ContextValue) (place : Place) (request : Request) (check part rest : List Level) →
    SentPart request.frame check part →
    sent_at c place ≡ Some request → now.held ≡ Some request → c.listen ≡ false →
    part ≡ driven_of (frame_bits place []) ++ rest → part ≡ seen_of (frame_bits place []) ++ rest →
    IsTransmitting c now place []
begun_transmitting c now place request check part rest is_part sent held speaks drives sees = record {
  request = request;
  sent = sent;
  held = held;
  speaks = speaks;
  check = check;
  part = part;
  is_part = is_part;
  well = record {
    ack = Dominant;
    fits = dominant_fits c.self_test;
    rest = rest ++ tail Recessive;
    others = rest ++ tail Dominant;
    driven = ap (λ l. l ++ tail Recessive) drives
        ∙ append_assoc (driven_of (frame_bits place [])) rest (tail Recessive);
    seen = ap (λ l. l ++ tail Dominant) sees ∙ append_assoc (seen_of (frame_bits place [])) rest (tail Dominant);
  };
  more = some_tail rest;
}

-- a request is to be sent where the bus is idle
pub transmits_from_idle : (c now : ContextValue) (request : Request) → IsFrame request.frame →
    sent_at c AtIdle ≡ Some request → now.held ≡ Some request → c.listen ≡ false →
    IsTransmitting c now AtIdle []
transmits_from_idle c now request frame sent held speaks =
    let (check, part, is_part) = sent_part_of request.frame frame in
    begun_transmitting c now AtIdle request check part part is_part sent held speaks refl refl

-- or interframe space ended with SOF
pub transmits_after_sof : (c now : ContextValue) (request : Request) → IsFrame request.frame →
    sent_at c AfterSof ≡ Some request → now.held ≡ Some request → c.listen ≡ false →
    IsTransmitting c now AfterSof []
transmits_after_sof c now request frame sent held speaks =
    let (check, part, is_part) = sent_part_of request.frame frame in
    let (rest, begins) = part_begins part is_part.is_part in
    begun_transmitting c now AfterSof request check part rest is_part sent held speaks begins begins

-- the first level is dominant
pub sends_start : (c now : ContextValue) (h : IsTransmitting c now AtIdle []) → TransmitsNext h.request [] Dominant
sends_start c now h =
    let (rest, begins) = part_begins h.part h.is_part.is_part in
    record {
      check = h.check;
      part = h.part;
      rest = rest ++ tail Recessive;
      is_part = h.is_part;
      whole = ap (λ l. l ++ tail Recessive) begins;
    }

-- ---- the next level

-- the level that comes next in the line of a request, of which these bits came
pub record HasNext (request : Request) (bits : List Bit) : Type 0 where
  pub level : Level
  pub ack : Level
  pub check : List Level
  pub part : List Level
  pub others : List Level
  pub rest : List Level
  pub is_part : StuffedPart request.frame (sent_body request.frame) check part
  pub right : Crc (sent_body request.frame) check
  pub seen : part ++ tail ack ≡ seen_of bits ++ others
  pub driven : part ++ tail Recessive ≡ driven_of bits ++ level ∷ rest
  pub count : length (driven_of bits) ≡ length (seen_of bits)
  pub sends : TransmitsNext request bits level

pub transmitting_next : (c now : ContextValue) (place : Place) (bits : List Bit) (h : IsTransmitting c now place bits) →
    HasNext h.request (frame_bits place bits)
transmitting_next c now place bits h =
    let g = h.well in
    let before : List Bit = frame_bits place bits in
    elim (cases_list g.rest) [
      | inl none ↦ absurd (h.more none)
      | inr some ↦
          let driven : h.part ++ tail Recessive ≡ driven_of before ++ some.0 ∷ some.1 =
          g.driven ∙ ap (λ l. driven_of before ++ l) some.2 in
          record {
            level = some.0;
            ack = g.ack;
            check = h.check;
            part = h.part;
            others = g.others;
            rest = some.1;
            is_part = h.is_part.is_part;
            right = h.is_part.right;
            seen = g.seen;
            driven = driven;
            count = length-map before (λ (b : Bit). b.driven) ∙ sym (length-map before (λ (b : Bit). b.seen));
            sends = record { check = h.check; part = h.part; rest = some.1; is_part = h.is_part; whole = driven };
          }
    ]

-- what a transmitter drives within its frame is that level
pub drives_sends : (c now : ContextValue) (place : Place) (bits : List Bit) (x : Level)
    (h : IsTransmitting c now place bits) → FrameDrives Transmitter now (frame_bits place bits) x →
    TransmitsNext h.request (frame_bits place bits) x
drives_sends c now place bits x h (request, held, sends) =
    let whole : Some request ≡ Some h.request = sym held ∙ h.held in
    let same : request ≡ h.request = cc in
    let P : Request → Type 0 = λ r. TransmitsNext r (frame_bits place bits) x in
    subst P same sends

-- nothing else of the context counts than the request that is held, and the one that the piece began with
pub transmitting_changed : (c now other : ContextValue) (held : Option Request) (marked : Bool) (place : Place)
    (bits : List Bit) (h : IsTransmitting c now place bits) →
    sent_at (record c { held = held; aborted = marked }) place ≡ Some h.request → other.held ≡ Some h.request →
    IsTransmitting (record c { held = held; aborted = marked }) other place bits
transmitting_changed c now other held marked place bits h sent holds = record {
  request = h.request;
  sent = sent;
  held = holds;
  speaks = h.speaks;
  check = h.check;
  part = h.part;
  is_part = h.is_part;
  well = h.well;
  more = h.more;
}

pub transmitting_kept : (c now other : ContextValue) (place : Place) (bits : List Bit) → other.held ≡ now.held →
    IsTransmitting c now place bits → IsTransmitting c other place bits
transmitting_kept c now other place bits same h =
    transmitting_changed c now other c.held c.aborted place bits h h.sent (same ∙ h.held)

-- ---- the rest

-- bits in which these levels are driven, and those seen
abbrev bits_of : List Level → List Level → List Bit
bits_of [] seen = []
bits_of (x ∷ driven) [] = []
bits_of (x ∷ driven) (y ∷ seen) = record { driven = x; seen = y } ∷ bits_of driven seen

bits_driven : (driven seen : List Level) → length seen ≡ length driven → driven_of (bits_of driven seen) ≡ driven
bits_driven [] seen e = refl
bits_driven (x ∷ driven) [] e = absurd (omega (arith, e))
bits_driven (x ∷ driven) (y ∷ seen) e = ap (λ l. x ∷ l) (bits_driven driven seen (omega (arith, e)))

bits_seen : (driven seen : List Level) → length seen ≡ length driven → seen_of (bits_of driven seen) ≡ seen
bits_seen [] [] e = refl
bits_seen [] (y ∷ seen) e = absurd (omega (arith, e))
bits_seen (x ∷ driven) [] e = absurd (omega (arith, e))
bits_seen (x ∷ driven) (y ∷ seen) e = ap (λ l. y ∷ l) (bits_seen driven seen (omega (arith, e)))

-- its whole line is sent
pub sends_all : {c now : ContextValue} {place : Place} {bits : List Bit} (h : IsTransmitting c now place bits)
    (all : List Bit) (ack : Level) →
    AckFits c.self_test ack → driven_of all ≡ h.part ++ tail Recessive → seen_of all ≡ h.part ++ tail ack →
    Transmits c.self_test h.request all (Transmission h.request) AtInterframeSpace
sends_all h all ack fits driven seen =
    sending (record {
      crc = h.check;
      part = h.part;
      is_part = h.is_part;
      ack = ack;
      fits = fits;
      driven = driven;
      seen = seen;
    })

-- the rest of its line, acknowledged, may follow
pub open_transmitting : (c now : ContextValue) (place : Place) (bits : List Bit) → IsFramePlace place →
    IsTransmitting c now place bits → IsUnfinished c place bits
open_transmitting c now place bits site h =
    let g = h.well in
    let before : List Bit = frame_bits place bits in
    let more : List Bit = bits_of g.rest g.others in
    let many = as_much_left c.self_test h.part before g in
    let drives : driven_of more ≡ g.rest = bits_driven g.rest g.others many in
    let sees : seen_of more ≡ g.others = bits_seen g.rest g.others many in
    let sends : Transmits c.self_test h.request (before ++ more) (Transmission h.request) AtInterframeSpace =
    sends_all h (before ++ more) g.ack g.fits
    (map-append (λ (b : Bit). b.driven) before more ∙ ap (λ l. driven_of before ++ l) drives ∙ sym g.driven)
    (map-append (λ (b : Bit). b.seen) before more ∙ ap (λ l. seen_of before ++ l) sees ∙ sym g.seen) in
    let P : List Bit → Type 0 = λ l. Transmits c.self_test h.request l (Transmission h.request) AtInterframeSpace in
    let row = row_own c place h.request (bits ++ more) (Transmission h.request) AtInterframeSpace site h.sent
    (subst P (sym (frame_more place bits more site)) sends) in
    elim (cases_list more) [
      | inl none ↦ absurd (h.more (sym drives ∙ ap (λ l. driven_of l) none))
      | inr some ↦
          let Q : List Bit → Type 0 = λ l. Row c place (bits ++ l) (Transmission h.request) AtInterframeSpace in
          record {
            piece = Transmission h.request;
            next = AtInterframeSpace;
            more = some.0;
            rest = some.1;
            lawful = subst Q some.2 row;
          }
    ]
