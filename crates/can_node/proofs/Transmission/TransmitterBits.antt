-- A bit of a frame for its transmitter: there is a fault, or the frame goes on, or it is sent.
use Rattle.std.proofs.Common.{◌≡◌, ◌+◌, ◌↔◌, IsTrue, ℕ, Bool, true, false, Some, None}
use Rattle.std.proofs.Common.{List, [], ◌∷◌, ◌++◌, length, refl, ap, sym, subst, ◌∙◌}
use Rattle.std.proofs.lemmas.List.{append-nil, nil_from_length}
use Rattle.can_levels.specs.declared.level.Level.{Level}
use Rattle.can_levels.specs.declared.level.Level.TheVariants.{Dominant, Recessive}
use Rattle.can_levels.specs.declared.segment.Segment.{Segment}
use Rattle.can_levels.specs.Segments.{IsNext}
use Rattle.can_levels.specs.Line.{tail}
use Rattle.can_levels.specs.Places.{place_code}
use Rattle.can_levels.specs.Streaming.{IsReadable, IsOver}
use Rattle.can_node_rules.specs.declared.cause.Cause.{Cause}
use Rattle.can_node_rules.specs.declared.fault_site.FaultSite.TheVariants.{InTransmission}
use Rattle.can_node_rules.specs.declared.request.Request.{Request}
use Rattle.can_node_rules.specs.Bits.{Bit, seen_of, driven_of}
use Rattle.can_node_rules.specs.Context.{ContextValue}
use Rattle.can_node_rules.specs.Frames.{GoesWell, Transmits}
use Rattle.can_node_rules.specs.Frames.Transmits.{failed}
use Rattle.can_node_rules.specs.Pieces.{Place}
use Rattle.can_node_rules.specs.Pieces.Place.{AtFlag, AtInterframeSpace}
use Rattle.can_node_rules.specs.Pieces.Piece.{Transmission, Fault}
use Rattle.can_node_rules.specs.UnfinishedPieces.{IsTransmitting, frame_bits}
use Rattle.can_node_rules.specs.Table.{Row}
use Rattle.can_node_rules.specs.TransmitterCauses.{cause_of_bit, kind_of}
use Rattle.can_node.specs.Inside.Turns.{GoesOnAs}
use Rattle.can_node_rules.proofs.Transmission.AfterLoss.{receives_on, lost_not_over}
use Rattle.can_node_rules.proofs.Bits.FramePlaces.{row_own, frame_more, frame_seen}
use Rattle.can_node_rules.proofs.Transmission.TransmitterFronts.{sends_all}
use Rattle.can_node_rules.proofs.Transmission.WellNext.{driven_push, IsOneMore, well_next, well_slot}
use Rattle.can_node_rules.proofs.Transmission.WellNext.{as_much_left, well_readable, over_at_end, end_at_over}
use Rattle.can_node_rules.proofs.Transmission.WrongBits.{IsFine, cause_fails, none_fine}
use Rattle.can_node_rules.proofs.Transmission.WrongBits.IsFine.{loses, fits_slot, is_seen}
use Rattle.can_node_rules.proofs.Transmission.OwnBits.{IsOwnBit, line_next, slot_here, here_slot}

-- ---- a fault
pub transmits_fault : {c now : ContextValue} {place : Place} {bits : List Bit} {driven seen : Level}
    {self_test slot early lost : Bool} {cause : Cause} (segment : Segment) →
    IsOwnBit c now place bits driven seen self_test slot early lost (Some cause) →
    (IsReadable (seen_of (frame_bits place bits)) →
    (stuff : Bool) × IsNext (seen_of (frame_bits place bits)) segment stuff) →
    (lost ≡ false) × Row c place (bits ++ record { driven = driven; seen = seen } ∷ [])
    (Fault InTransmission cause segment) AtFlag
transmits_fault {c = c} {place = place} {bits = bits} {driven = driven} {seen = seen} {slot = slot} {early = early}
    {lost = lost} {cause = cause} segment t site =
    let h = t.transmitting in
    let b : Bit = record { driven = driven; seen = seen } in
    let before : List Bit = frame_bits place bits in
    let wrong = ap (λ s. cause_of_bit driven seen (kind_of slot early lost) s) (sym t.same) ∙ t.cause_is in
    let fails = cause_fails h.request h.part before driven seen c.self_test slot early lost cause
    (slot_here h t.slot_is) (here_slot h t.slot_is) t.early_is t.lost_is wrong in
    let next = site (well_readable c.self_test h.request.frame h.check h.part before h.is_part h.well) in
    let all : h.part ++ tail Recessive ≡ driven_of (before ++ b ∷ []) ++ t.sends.rest =
    line_next h t.sends ∙ sym (driven_push before b t.sends.rest) in
    let P : List Bit → Type 0 = λ l. Transmits c.self_test h.request l (Fault InTransmission cause segment) AtFlag in
    let sends = failed
    (record {
      crc = h.check;
      part = h.part;
      is_part = h.is_part;
      before = before;
      last = b;
      whole = refl;
      well = h.well;
      rest = t.sends.rest;
      driven = all;
      fails = fails.1;
      stuff_bit = next.0;
      site = next.1;
    }) in (
      fails.0,
      row_own c place h.request (bits ++ b ∷ []) (Fault InTransmission cause segment) AtFlag t.site h.sent
          (subst P (sym (frame_more place bits (b ∷ []) t.site)) sends),
    )

-- ---- no fault

-- what is fine and no loss goes well
fine_well : {ext self_test slot : Bool} {part : List Level} (before : List Bit) (driven seen : Level)
    (rest : List Level) (g : GoesWell self_test part before) →
    (slot ≡ true → length before ≡ length part + 1) → (length before ≡ length part + 1 → slot ≡ true) →
    part ++ tail Recessive ≡ driven_of before ++ driven ∷ rest → IsFine ext before driven seen self_test slot false →
    IsOneMore self_test part (before ++ record { driven = driven; seen = seen } ∷ []) rest
fine_well {self_test = self_test} {part = part} before driven seen rest g due only e (fits_slot here fits) =
    well_slot self_test part before (record { driven = driven; seen = seen }) rest g e (due here) fits
fine_well {self_test = self_test} {part = part} before driven seen rest g due only e (is_seen other same) =
    well_next self_test part before (record { driven = driven; seen = seen }) rest g e
    (λ here. (let wrong : false ≡ true = sym other ∙ only here in cc)) same

-- so it does, where nothing is wrong and arbitration isn't lost
own_bit_well : {c now : ContextValue} {place : Place} {bits : List Bit} {driven seen : Level}
    {self_test slot early : Bool}
    (t : IsOwnBit c now place bits driven seen self_test slot early false None) →
    IsOneMore c.self_test t.transmitting.part (frame_bits place (bits ++ record { driven = driven; seen = seen } ∷ []))
    t.sends.rest
own_bit_well {c = c} {place = place} {bits = bits} {driven = driven} {seen = seen} {slot = slot} {early = early} t =
    let h = t.transmitting in
    let b : Bit = record { driven = driven; seen = seen } in
    let before : List Bit = frame_bits place bits in
    let right = ap (λ s. cause_of_bit driven seen (kind_of slot early false) s) (sym t.same) ∙ t.cause_is in
    let fine = none_fine h.request before driven seen c.self_test slot early false t.lost_is right in
    let P : List Bit → Type 0 = λ l. IsOneMore c.self_test h.part l t.sends.rest in
    subst P (sym (frame_more place bits (b ∷ []) t.site))
    (fine_well before driven seen t.sends.rest h.well (slot_here h t.slot_is) (here_slot h t.slot_is)
    (line_next h t.sends) fine)

-- the frame goes on
pub transmits_more : {c now : ContextValue} {place : Place} {bits : List Bit} {driven seen : Level}
    {self_test slot early : Bool} →
    IsOwnBit c now place bits driven seen self_test slot early false None →
    (IsOver (seen_of (frame_bits place bits) ++ seen ∷ []) → ⊥) →
    IsTransmitting c now place (bits ++ record { driven = driven; seen = seen } ∷ [])
transmits_more {c = c} {place = place} {bits = bits} {driven = driven} {seen = seen} t unended =
    let h = t.transmitting in
    let b : Bit = record { driven = driven; seen = seen } in
    let one = own_bit_well t in
    let P : List Level → Type 0 = λ l. IsOver l in
    record {
      request = h.request;
      sent = h.sent;
      held = h.held;
      speaks = h.speaks;
      check = h.check;
      part = h.part;
      is_part = h.is_part;
      well = one.well;
      more = λ none.
          let over = over_at_end c.self_test h.request.frame h.check h.part (frame_bits place (bits ++ b ∷ []))
          h.is_part one.well none in
          unended (subst P (frame_seen place bits b t.site) over);
    }

-- with the last level of its line it is sent
own_bit_sent : {c now : ContextValue} {place : Place} {bits : List Bit} {driven seen : Level}
    {self_test slot early : Bool} →
    (t : IsOwnBit c now place bits driven seen self_test slot early false None) →
    IsOver (seen_of (frame_bits place bits) ++ seen ∷ []) →
    Row c place (bits ++ record { driven = driven; seen = seen } ∷ []) (Transmission t.transmitting.request)
    AtInterframeSpace
own_bit_sent {c = c} {place = place} {bits = bits} {driven = driven} {seen = seen} t over =
    let h = t.transmitting in
    let b : Bit = record { driven = driven; seen = seen } in
    let all : List Bit = frame_bits place (bits ++ b ∷ []) in
    let g = (own_bit_well t).well in
    let P : List Level → Type 0 = λ l. IsOver l in
    let none = end_at_over c.self_test h.request.frame h.check h.part all h.is_part g
    (subst P (sym (frame_seen place bits b t.site)) over) in
    let unseen : g.others ≡ [] = nil_from_length g.others (as_much_left c.self_test h.part all g ∙ ap length none) in
    let sends : Transmits c.self_test h.request all (Transmission h.request) AtInterframeSpace =
    sends_all h all g.ack g.fits
    (sym (g.driven ∙ ap (λ l. driven_of all ++ l) none ∙ append-nil (driven_of all)))
    (sym (g.seen ∙ ap (λ l. seen_of all ++ l) unseen ∙ append-nil (seen_of all))) in
    row_own c place h.request (bits ++ b ∷ []) (Transmission h.request) AtInterframeSpace t.site h.sent sends

-- ---- arbitration lost or not

-- where it is lost
record IsLost (ext : Bool) (l : List Level) (driven seen : Level) : Type 0 where
  code : ℕ
  drives : driven ≡ Recessive
  sees : seen ≡ Dominant
  some : place_code ext l ≡ Some code

fine_lost : {ext self_test slot : Bool} (before : List Bit) (driven seen : Level) →
    IsFine ext before driven seen self_test slot true → IsLost ext (seen_of before) driven seen
fine_lost before driven seen (loses code d s e) = record { code = code; drives = d; sees = s; some = e }

own_bit_lost : {c now : ContextValue} {place : Place} {bits : List Bit} {driven seen : Level}
    {self_test slot early : Bool} (t : IsOwnBit c now place bits driven seen self_test slot early true None) →
    IsLost t.transmitting.request.frame.ext (seen_of (frame_bits place bits)) driven seen
own_bit_lost {place = place} {bits = bits} {driven = driven} {seen = seen} {self_test = self_test} {slot = slot}
    {early = early} t =
    fine_lost (frame_bits place bits) driven seen
    (none_fine t.transmitting.request (frame_bits place bits) driven seen self_test slot early true t.lost_is
    t.cause_is)

-- a whole line has come
pub transmits_sent : {c now : ContextValue} {place : Place} {bits : List Bit} {driven seen : Level}
    {self_test slot early : Bool} (lost whole : Bool) →
    (t : IsOwnBit c now place bits driven seen self_test slot early lost None) → (request : Request) →
    request ≡ t.transmitting.request →
    IsTrue whole ↔ IsOver (seen_of (frame_bits place bits) ++ seen ∷ []) → whole ≡ true →
    (lost ≡ false) × Row c place (bits ++ record { driven = driven; seen = seen } ∷ []) (Transmission request)
    AtInterframeSpace
transmits_sent {c = c} {place = place} {bits = bits} {driven = driven} {seen = seen} false whole t request same over
    here =
    let P : Request → Type 0 = λ r. Row c place (bits ++ record { driven = driven; seen = seen } ∷ []) (Transmission r)
    AtInterframeSpace in
    (refl, subst P (sym same) (own_bit_sent t (over.0 here)))
transmits_sent {c = c} {now = now} {place = place} {bits = bits} {seen = seen} true whole t request same over here =
    let h = own_bit_lost t in absurd
    (lost_not_over c now place bits h.code seen t.transmitting h.sees h.some (over.0 here))

-- more of it is to come
pub transmits_on : {c now : ContextValue} {place : Place} {bits : List Bit} {driven seen : Level}
    {self_test slot early : Bool} (lost whole : Bool) →
    IsOwnBit c now place bits driven seen self_test slot early lost None →
    IsTrue whole ↔ IsOver (seen_of (frame_bits place bits) ++ seen ∷ []) → whole ≡ false →
    GoesOnAs lost c now place (bits ++ record { driven = driven; seen = seen } ∷ [])
transmits_on false whole t over here =
    transmits_more t (λ all. (let wrong : true ≡ false = sym (over.1 all) ∙ here in cc))
transmits_on {c = c} {now = now} {place = place} {bits = bits} {driven = driven} {seen = seen} true whole t over here =
    let h = own_bit_lost t in
    receives_on c now place bits (record { driven = driven; seen = seen }) h.code t.sends.rest t.site t.transmitting
    (line_next t.transmitting t.sends) h.drives h.sees h.some
