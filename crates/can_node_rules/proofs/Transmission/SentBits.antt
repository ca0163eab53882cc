-- Which bits of a transmitter go well.
use Rattle.std.proofs.Common.{◌≡◌, ◌≢◌, ◌+◌, ◌<◌, ◌⊎◌, inl, inr, Bool, false, List, [], ◌∷◌, ◌++◌}
use Rattle.std.proofs.Common.{length, replicate, refl, ap, sym, subst, ◌∙◌, arith, append_assoc}
use Rattle.std.proofs.lemmas.List.{length-append, length-map, map-append}
use Rattle.can_levels.specs.declared.level.Level.{Level}
use Rattle.can_levels.specs.declared.level.Level.TheVariants.{Dominant, Recessive}
use Rattle.can_levels.specs.Fields.{rtr_place}
use Rattle.can_levels.specs.Places.{plain_count}
use Rattle.lemmas.proofs.Lists.{append-split}
use Rattle.can_levels.proofs.PlaceLemmas.{part_late, stuff_early}
use Rattle.can_node_rules.specs.declared.cause.Cause.{Cause}
use Rattle.can_node_rules.specs.declared.request.Request.{Request}
use Rattle.can_node_rules.specs.Bits.{Bit, recessive_bit, dominant_bit, seen_of, driven_of}
use Rattle.can_node_rules.specs.Frames.{AckFits, SentPart, GoesWell, Fails}
use Rattle.can_node_rules.specs.Frames.Fails.{no_ack, stuff_bit, unseen, overdriven}

-- two lists that differ at one place at most: their levels at one place are equal, but at that one
pub same_place : (q a b x y z : List Level) (u v ack : Level) → q ++ Recessive ∷ z ≡ a ++ u ∷ x →
    q ++ ack ∷ z ≡ b ++ v ∷ y →
    length a ≡ length b →
    ((length a ≡ length q) × (u ≡ Recessive) × (v ≡ ack)) ⊎ ((length a ≢ length q) × (u ≡ v))
same_place [] [] [] x y z u v ack e f n = inl (refl, cc, cc)
same_place [] [] (r ∷ b) x y z u v ack e f n = absurd (omega arith)
same_place [] (p ∷ a) [] x y z u v ack e f n = absurd (omega arith)
same_place [] (p ∷ a) (r ∷ b) x y z u v ack e f n =
    let one : z ≡ a ++ u ∷ x = cc in
    let other : z ≡ b ++ v ∷ y = cc in
    let parts = append-split a (u ∷ x) b (v ∷ y) (omega (arith, n)) (sym one ∙ other) in
    let same = parts.1 in
    inr (λ none. absurd (omega arith), cc)
same_place (k ∷ q) [] [] x y z u v ack e f n = inr (λ none. absurd (omega arith), cc)
same_place (k ∷ q) [] (r ∷ b) x y z u v ack e f n = absurd (omega arith)
same_place (k ∷ q) (p ∷ a) [] x y z u v ack e f n = absurd (omega arith)
same_place (k ∷ q) (p ∷ a) (r ∷ b) x y z u v ack e f n =
    let one : q ++ Recessive ∷ z ≡ a ++ u ∷ x = cc in
    let other : q ++ ack ∷ z ≡ b ++ v ∷ y = cc in
    elim (same_place q a b x y z u v ack one other (omega (arith, n))) [
      | inl h ↦ inl (omega (arith, h.0), h.1, h.2)
      | inr h ↦ inr (λ same. h.0 (omega (arith, same)), h.1)
    ]

-- a front of what goes well goes well
pub well_front : (self_test : Bool) (part : List Level) (a b : List Bit) → GoesWell self_test part (a ++ b) →
    GoesWell self_test part a
well_front self_test part a b g = record {
  ack = g.ack;
  fits = g.fits;
  rest = driven_of b ++ g.rest;
  others = seen_of b ++ g.others;
  driven = g.driven ∙ ap (λ l. l ++ g.rest) (map-append (λ (x : Bit). x.driven) a b)
      ∙ append_assoc (driven_of a) (driven_of b) g.rest;
  seen = g.seen ∙ ap (λ l. l ++ g.others) (map-append (λ (x : Bit). x.seen) a b)
      ∙ append_assoc (seen_of a) (seen_of b) g.others;
}

-- a bit that goes well is seen as it is driven, but in the ACK slot
well_bit : (self_test : Bool) (part : List Level) (before : List Bit) (last : Bit)
    (g : GoesWell self_test part (before ++ last ∷ [])) →
    ((length before ≡ length part + 1) × (last.driven ≡ Recessive) × (last.seen ≡ g.ack))
    ⊎ ((length before ≢ length part + 1) × (last.driven ≡ last.seen))
well_bit self_test part before last g =
    let z : List Level = Recessive ∷ replicate 7 Recessive in
    let q : List Level = part ++ Recessive ∷ [] in
    let driven : q ++ Recessive ∷ z ≡ driven_of before ++ last.driven ∷ g.rest =
    append_assoc part (Recessive ∷ []) (Recessive ∷ z) ∙ g.driven
    ∙ ap (λ l. l ++ g.rest) (map-append (λ (x : Bit). x.driven) before (last ∷ []))
    ∙ append_assoc (driven_of before) (last.driven ∷ []) g.rest in
    let seen : q ++ g.ack ∷ z ≡ seen_of before ++ last.seen ∷ g.others =
    append_assoc part (Recessive ∷ []) (g.ack ∷ z) ∙ g.seen
    ∙ ap (λ l. l ++ g.others) (map-append (λ (x : Bit). x.seen) before (last ∷ []))
    ∙ append_assoc (seen_of before) (last.seen ∷ []) g.others in
    let one = length-map before (λ (x : Bit). x.driven) in
    let other = length-map before (λ (x : Bit). x.seen) in
    let count = length-append part (Recessive ∷ []) in
    elim (same_place q (driven_of before) (seen_of before) g.rest g.others z last.driven last.seen g.ack driven seen
    (omega (arith, one, other))) [
      | inl h ↦ inl (omega (arith, h.0, one, count), h.1, h.2)
      | inr h ↦ inr (λ same. h.0 (omega (arith, same, one, count)), h.1)
    ]

-- what was seen before the ACK slot
pub seen_at_slot : (self_test : Bool) (part : List Level) (before : List Bit) → GoesWell self_test part before →
    length before ≡ length part + 1 →
    seen_of before ≡ part ++ Recessive ∷ []
seen_at_slot self_test part before g count =
    let z : List Level = g.ack ∷ Recessive ∷ replicate 7 Recessive in
    let whole : (part ++ Recessive ∷ []) ++ z ≡ seen_of before ++ g.others =
    append_assoc part (Recessive ∷ []) z ∙ g.seen in
    let lengths : length (part ++ Recessive ∷ []) ≡ length (seen_of before) =
    omega (arith, count, length-append part (Recessive ∷ []), length-map before (λ (x : Bit). x.seen)) in
    let parts = append-split (part ++ Recessive ∷ []) z (seen_of before) g.others lengths whole in
    sym parts.0

-- the ACK slot is past RTR
slot_late : (self_test : Bool) (request : Request) (c part : List Level) (before : List Bit) →
    SentPart request.frame c part → GoesWell self_test part before →
    length before ≡ length part + 1 → rtr_place request.frame.ext < plain_count (seen_of before)
slot_late self_test request c part before h g count =
    let P : List Level → Type 0 = λ l. rtr_place request.frame.ext < plain_count l in
    subst P (sym (seen_at_slot self_test part before g count)) (part_late request.frame.ext (Recessive ∷ []) h.is_part)

-- a recessive level that is seen dominant before RTR doesn't go well
pub lost_not_well : (self_test : Bool) (request : Request) (c part : List Level) (before : List Bit) →
    SentPart request.frame c part →
    (early : (rtr_place request.frame.ext < plain_count (seen_of before)) → ⊥) →
    GoesWell self_test part (before ++ recessive_bit Dominant ∷ []) → ⊥
lost_not_well self_test request c part before h early g =
    elim (well_bit self_test part before (recessive_bit Dominant) g) [
      | inl slot ↦ early (slot_late self_test request c part before h
          (well_front self_test part before (recessive_bit Dominant ∷ []) g) slot.0)
      | inr same ↦ let wrong : Recessive ≡ Dominant = same.1 in cc
    ]

-- nor does what a transmitter's fault is
pub fails_not_well : (self_test : Bool) (request : Request) (c part : List Level) (before : List Bit) (last : Bit)
    (cause : Cause) →
    SentPart request.frame c part → Fails self_test request.frame.ext part before last cause →
    GoesWell self_test part (before ++ last ∷ []) → ⊥
fails_not_well self_test request c part before last cause h (no_ack strict site) g =
    elim (well_bit self_test part before (recessive_bit Recessive) g) [
      | inl slot ↦
          let fits : AckFits false g.ack = subst (λ b. AckFits b g.ack) strict g.fits in
          let wrong : Recessive ≡ Dominant = slot.2 ∙ fits in
          cc
      | inr same ↦ same.0 site
    ]
fails_not_well self_test request c part before last cause h (stuff_bit early) g =
    let site = stuff_early request.frame.ext (seen_of before) early in
    let most = site.1 in
    lost_not_well self_test request c part before h (λ late. omega (arith, most, late)) g
fails_not_well self_test request c part before last cause h unseen g =
    elim (well_bit self_test part before (dominant_bit Recessive) g) [
      | inl slot ↦ let wrong : Dominant ≡ Recessive = slot.1 in cc
      | inr same ↦ let wrong : Dominant ≡ Recessive = same.1 in cc
    ]
fails_not_well self_test request c part before last cause h (overdriven other late none) g =
    elim (well_bit self_test part before (recessive_bit Dominant) g) [
      | inl slot ↦ other slot.0
      | inr same ↦ let wrong : Recessive ≡ Dominant = same.1 in cc
    ]
