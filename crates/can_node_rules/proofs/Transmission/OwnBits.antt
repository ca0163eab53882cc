-- What a transmitter finds of a bit of its frame: it drives the next level of its line, and sees one.
use Rattle.std.proofs.Common.{◌≡◌, ◌+◌, ◌↔◌, IsTrue, Bool, true, Option, Some}
use Rattle.std.proofs.Common.{is_some, List, ◌∷◌, ◌++◌, length, refl, ap, sym, ◌∙◌}
use Rattle.can_levels.specs.declared.level.Level.{Level}
use Rattle.can_levels.specs.declared.level.Level.TheVariants.{Recessive}
use Rattle.can_levels.specs.Acknowledging.{IsAckDue}
use Rattle.can_levels.specs.Line.{tail}
use Rattle.can_levels.specs.Places.{is_early_stuff}
use Rattle.can_node_rules.specs.declared.cause.Cause.{Cause}
use Rattle.can_node_rules.specs.declared.request.Request.{Request}
use Rattle.can_node_rules.specs.Bits.{Bit, seen_of, driven_of}
use Rattle.can_node_rules.specs.Context.{ContextValue}
use Rattle.can_node_rules.specs.Counting.{lost_by}
use Rattle.can_node_rules.specs.Driving.{TransmitsNext}
use Rattle.can_node_rules.specs.Pieces.{Place}
use Rattle.can_node_rules.specs.UnfinishedPieces.{IsTransmitting, IsFramePlace, frame_bits}
use Rattle.can_node_rules.specs.declared.own_bit.OwnBit.{OwnBit}
use Rattle.can_node_rules.specs.TransmitterCauses.{cause_of_bit, kind_of}
use Rattle.can_node_rules.proofs.Transmission.SentLines.{sent_part_once}
use Rattle.can_node_rules.proofs.Transmission.WellNext.{due_at_slot, slot_at_due}

-- a transmitter drives the next level of its line, and this is what is found of the level that it sees
pub record IsOwnBit (c now : ContextValue) (place : Place) (bits : List Bit) (driven seen : Level)
    (self_test slot early lost : Bool) (cause : Option Cause) : Type 0 where
  pub site : IsFramePlace place
  pub same : self_test ≡ c.self_test
  pub transmitting : IsTransmitting c now place bits
  pub sends : TransmitsNext transmitting.request (frame_bits place bits) driven
  pub early_is : early ≡ is_early_stuff transmitting.request.frame.ext (seen_of (frame_bits place bits))
  pub lost_is : lost ≡ is_some (lost_by (Some transmitting.request) (seen_of (frame_bits place bits)) driven seen)
  pub slot_is : IsTrue slot ↔ IsAckDue (seen_of (frame_bits place bits))
  pub cause_is : cause_of_bit driven seen (kind_of slot early lost) self_test ≡ cause

-- the same from what the code finds
pub own_bit_by : {c now : ContextValue} {place : Place} {bits : List Bit} {driven seen : Level}
    {self_test lost ext : Bool} {kind : OwnBit} {cause : Option Cause}
    (request : Request) → IsFramePlace place → self_test ≡ c.self_test → (h : IsTransmitting c now place bits) →
    request ≡ h.request →
    TransmitsNext h.request (frame_bits place bits) driven →
    lost ≡ is_some (lost_by (Some h.request) (seen_of (frame_bits place bits)) driven seen) →
    ext ≡ request.frame.ext →
    (slot : Bool) × (IsTrue slot ↔ IsAckDue (seen_of (frame_bits place bits)))
    × (kind ≡ kind_of slot (is_early_stuff ext (seen_of (frame_bits place bits))) lost) →
    cause ≡ cause_of_bit driven seen kind self_test →
    (slot : Bool) × (told : IsOwnBit c now place bits driven seen self_test slot
    (is_early_stuff ext (seen_of (frame_bits place bits))) lost cause)
    × (told.transmitting.request ≡ h.request)
own_bit_by {place = place} {bits = bits} {driven = driven} {seen = seen} {self_test = self_test} request site same h one
    sends lost format own wrong = (
      own.0,
      record {
        site = site;
        same = same;
        transmitting = h;
        sends = sends;
        early_is = ap (λ e. is_early_stuff e (seen_of (frame_bits place bits)))
            (format ∙ ap (λ (r : Request). r.frame.ext) one);
        lost_is = lost;
        slot_is = own.1;
        cause_is = sym (wrong ∙ ap (λ k. cause_of_bit driven seen k self_test) own.2);
      },
      refl,
    )

-- the driven level is the next one of its line
pub line_next : {c now : ContextValue} {place : Place} {bits : List Bit} {x : Level}
    (h : IsTransmitting c now place bits) (s : TransmitsNext h.request (frame_bits place bits) x) →
    h.part ++ tail Recessive ≡ driven_of (frame_bits place bits) ++ x ∷ s.rest
line_next h s = ap (λ l. l ++ tail Recessive)
    (sent_part_once h.request.frame h.check s.check h.part s.part h.is_part s.is_part).1 ∙ s.whole

-- the ACK slot is where one is due
pub slot_here : {c now : ContextValue} {place : Place} {bits : List Bit} {slot : Bool}
    (h : IsTransmitting c now place bits) → IsTrue slot ↔ IsAckDue (seen_of (frame_bits place bits)) →
    slot ≡ true → length (frame_bits place bits) ≡ length h.part + 1
slot_here {c = c} {place = place} {bits = bits} h due e =
    slot_at_due c.self_test h.request.frame h.check h.part (frame_bits place bits) h.is_part h.well (due.0 e)

pub here_slot : {c now : ContextValue} {place : Place} {bits : List Bit} {slot : Bool}
    (h : IsTransmitting c now place bits) → IsTrue slot ↔ IsAckDue (seen_of (frame_bits place bits)) →
    length (frame_bits place bits) ≡ length h.part + 1 → slot ≡ true
here_slot {c = c} {place = place} {bits = bits} h due count =
    due.1 (due_at_slot c.self_test h.request.frame h.check h.part (frame_bits place bits) h.is_part h.well count)
