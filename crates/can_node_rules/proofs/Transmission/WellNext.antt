-- A transmitter's line with one bit more, and what its levels are as a line.
use Rattle.std.proofs.Common.{◌≡◌, ◌≢◌, ◌+◌, ◌⊎◌, inl, inr, Bool, List, [], ◌∷◌, ◌++◌}
use Rattle.std.proofs.Common.{length, replicate, refl, ap, sym, ◌∙◌, arith, append_assoc}
use Rattle.std.proofs.lemmas.List.{length-append, length-map, map-append, nil_from_length}
use Rattle.can_frame.specs.Frame.{FrameValue}
use Rattle.can_levels.specs.declared.level.Level.{Level}
use Rattle.can_levels.specs.declared.level.Level.TheVariants.{Recessive}
use Rattle.can_levels.specs.Acknowledging.{IsAckDue}
use Rattle.can_levels.specs.Body.{sent_body}
use Rattle.can_levels.specs.Line.{tail}
use Rattle.can_levels.specs.Streaming.{IsReadable, IsOver}
use Rattle.can_levels.proofs.LineEnds.{over_part}
use Rattle.can_levels.proofs.Ending.{same_part}
use Rattle.lemmas.proofs.Lists.{append-cancel, cases_list}
use Rattle.can_node_rules.specs.Bits.{Bit, seen_of, driven_of}
use Rattle.can_node_rules.specs.Frames.{AckFits, SentPart, GoesWell}
use Rattle.can_node_rules.proofs.Transmission.SentBits.{same_place, seen_at_slot}

-- what is driven with one bit more, and what is seen
pub driven_push : (before : List Bit) (last : Bit) (rest : List Level) →
    driven_of (before ++ last ∷ []) ++ rest ≡ driven_of before ++ last.driven ∷ rest
driven_push before last rest =
    ap (λ l. l ++ rest) (map-append (λ (b : Bit). b.driven) before (last ∷ []))
    ∙ append_assoc (driven_of before) (last.driven ∷ []) rest

pub seen_push : (before : List Bit) (last : Bit) (rest : List Level) →
    seen_of (before ++ last ∷ []) ++ rest ≡ seen_of before ++ last.seen ∷ rest
seen_push before last rest =
    ap (λ l. l ++ rest) (map-append (λ (b : Bit). b.seen) before (last ∷ []))
    ∙ append_assoc (seen_of before) (last.seen ∷ []) rest

-- as much is still to be seen as to be driven
pub as_much_left : (self_test : Bool) (part : List Level) (before : List Bit) (g : GoesWell self_test part before) →
    length g.others ≡ length g.rest
as_much_left self_test part before g =
    omega (
      arith,
      ap length g.driven,
      ap length g.seen,
      length-append part (tail Recessive),
      length-append part (tail g.ack),
      length-append (driven_of before) g.rest,
      length-append (seen_of before) g.others,
      length-map before (λ (b : Bit). b.driven),
      length-map before (λ (b : Bit). b.seen),
    )

-- the level that is driven next is to be seen next, but in the ACK slot, where it is recessive
pub seen_next : (self_test : Bool) (part : List Level) (before : List Bit) (x : Level) (rest : List Level)
    (g : GoesWell self_test part before) →
    part ++ tail Recessive ≡ driven_of before ++ x ∷ rest →
    ((length before ≡ length part + 1) × (x ≡ Recessive))
    ⊎ ((length before ≢ length part + 1) × (later : List Level) × (g.others ≡ x ∷ later))
seen_next self_test part before x rest g e =
    let z : List Level = Recessive ∷ replicate 7 Recessive in
    let q : List Level = part ++ Recessive ∷ [] in
    let left : g.rest ≡ x ∷ rest = append-cancel (driven_of before) g.rest (x ∷ rest) (sym g.driven ∙ e) in
    let many = as_much_left self_test part before g in
    let one = length-map before (λ (b : Bit). b.driven) in
    let other = length-map before (λ (b : Bit). b.seen) in
    let count = length-append part (Recessive ∷ []) in
    elim (cases_list g.others) [
      | inl none ↦ absurd (omega (arith, many, ap length left, ap length none))
      | inr some ↦
          let driven : q ++ Recessive ∷ z ≡ driven_of before ++ x ∷ rest =
          append_assoc part (Recessive ∷ []) (Recessive ∷ z) ∙ e in
          let seen : q ++ g.ack ∷ z ≡ seen_of before ++ some.0 ∷ some.1 =
          append_assoc part (Recessive ∷ []) (g.ack ∷ z) ∙ g.seen ∙ ap (λ l. seen_of before ++ l) some.2 in
          elim (same_place q (driven_of before) (seen_of before) rest some.1 z x some.0 g.ack driven seen
          (omega (arith, one, other))) [
            | inl h ↦ inl (omega (arith, h.0, one, count), h.1)
            | inr h ↦ inr (
              λ same. h.0 (omega (arith, same, one, count)),
              some.1,
              some.2
                  ∙ ap (λ y. y ∷ some.1) (sym h.1),
            )
          ]
    ]

-- a front of a line with one bit more, of which this is left
pub record IsOneMore (self_test : Bool) (part : List Level) (bits : List Bit) (rest : List Level) : Type 0 where
  pub well : GoesWell self_test part bits
  pub left : well.rest ≡ rest

-- a bit before or after the ACK slot goes well where it is seen as it is driven
pub well_next : (self_test : Bool) (part : List Level) (before : List Bit) (last : Bit) (rest : List Level) →
    GoesWell self_test part before →
    part ++ tail Recessive ≡ driven_of before ++ last.driven ∷ rest → length before ≢ length part + 1 →
    last.driven ≡ last.seen →
    IsOneMore self_test part (before ++ last ∷ []) rest
well_next self_test part before last rest g e other same =
    elim (seen_next self_test part before last.driven rest g e) [
      | inl slot ↦ absurd (other slot.0)
      | inr next ↦
          let others : g.others ≡ last.seen ∷ next.1 = next.2 ∙ ap (λ x. x ∷ next.1) same in
          let well : GoesWell self_test part (before ++ last ∷ []) = record {
            ack = g.ack;
            fits = g.fits;
            rest = rest;
            others = next.1;
            driven = e ∙ sym (driven_push before last rest);
            seen = g.seen ∙ ap (λ l. seen_of before ++ l) others ∙ sym (seen_push before last next.1);
          } in
          record { well = well; left = refl }
    ]

-- and in the slot it does where the level that is seen may stand there
pub well_slot : (self_test : Bool) (part : List Level) (before : List Bit) (last : Bit) (rest : List Level) →
    GoesWell self_test part before →
    part ++ tail Recessive ≡ driven_of before ++ last.driven ∷ rest → length before ≡ length part + 1 →
    AckFits self_test last.seen →
    IsOneMore self_test part (before ++ last ∷ []) rest
well_slot self_test part before last rest g e slot fits =
    let z : List Level = Recessive ∷ replicate 7 Recessive in
    let well : GoesWell self_test part (before ++ last ∷ []) = record {
      ack = last.seen;
      fits = fits;
      rest = rest;
      others = z;
      driven = e ∙ sym (driven_push before last rest);
      seen = sym (append_assoc part (Recessive ∷ []) (last.seen ∷ z))
          ∙ ap (λ l. l ++ last.seen ∷ z) (sym (seen_at_slot self_test part before g slot))
          ∙ sym (seen_push before last z);
    } in
    record { well = well; left = refl }

-- what went well is readable
pub well_readable : (self_test : Bool) (f : FrameValue) (c part : List Level) (before : List Bit) → SentPart f c part →
    GoesWell self_test part before → IsReadable (seen_of before)
well_readable self_test f c part before h g = record {
  begun = record {
    frame = f;
    body = sent_body f;
    check = c;
    ack = g.ack;
    rest = g.others;
    line = record { part = part; is_part = h.is_part; whole = sym g.seen };
  };
  right = λ few. h.right;
}

-- at its ACK slot an acknowledgement is due, and there alone
pub due_at_slot : (self_test : Bool) (f : FrameValue) (c part : List Level) (before : List Bit) → SentPart f c part →
    GoesWell self_test part before →
    length before ≡ length part + 1 → IsAckDue (seen_of before)
due_at_slot self_test f c part before h g slot = record {
  frame = f;
  body = sent_body f;
  check = c;
  part = part;
  is_part = h.is_part;
  right = h.right;
  whole = seen_at_slot self_test part before g slot;
}

pub slot_at_due : (self_test : Bool) (f : FrameValue) (c part : List Level) (before : List Bit) → SentPart f c part →
    GoesWell self_test part before →
    IsAckDue (seen_of before) → length before ≡ length part + 1
slot_at_due self_test f c part before h g due =
    let whole : due.part ++ Recessive ∷ g.others ≡ part ++ tail g.ack =
    sym (append_assoc due.part (Recessive ∷ []) g.others) ∙ ap (λ l. l ++ g.others) (sym due.whole) ∙ sym g.seen in
    let same = same_part (Recessive ∷ g.others) (tail g.ack) due.is_part h.is_part whole in
    omega (
      arith,
      ap length same,
      ap length due.whole,
      length-append due.part (Recessive ∷ []),
      length-map before (λ (b : Bit). b.seen),
    )

-- a whole line was seen where nothing is left of it, and there alone
pub over_at_end : (self_test : Bool) (f : FrameValue) (c part : List Level) (before : List Bit) → SentPart f c part →
    (g : GoesWell self_test part before) →
    g.rest ≡ [] → IsOver (seen_of before)
over_at_end self_test f c part before h g none = (
  f,
  record {
    body = sent_body f;
    check = c;
    ack = g.ack;
    rest = g.others;
    line = record { part = part; is_part = h.is_part; whole = sym g.seen };
    right = h.right;
    count = as_much_left self_test part before g ∙ ap length none;
  },
)

pub end_at_over : (self_test : Bool) (f : FrameValue) (c part : List Level) (before : List Bit) → SentPart f c part →
    (g : GoesWell self_test part before) →
    IsOver (seen_of before) → g.rest ≡ []
end_at_over self_test f c part before h g over =
    let line = over.1.line in
    let ack = over.1.ack in
    let here : seen_of before ≡ line.part ++ tail ack = over_part (seen_of before) over in
    let whole : line.part ++ (tail ack ++ g.others) ≡ part ++ tail g.ack =
    sym (append_assoc line.part (tail ack) g.others) ∙ ap (λ l. l ++ g.others) (sym here) ∙ sym g.seen in
    let same = same_part (tail ack ++ g.others) (tail g.ack) line.is_part h.is_part whole in
    let left : tail ack ++ g.others ≡ tail g.ack =
    append-cancel part (tail ack ++ g.others) (tail g.ack) (ap (λ l. l ++ (tail ack ++ g.others)) (sym same) ∙ whole) in
    nil_from_length g.rest (omega (
      arith,
      as_much_left self_test part before g,
      ap length left,
      length-append (tail ack) g.others,
    ))
