-- A stuff error in the stuffed part of a frame, as a receiver has it that acknowledges nothing so far.
use Rattle.std.proofs.Common.{◌≡◌, Bool, true, false, inl, inr, List, [], ◌∷◌}
use Rattle.std.proofs.Common.{◌++◌, refl, ap, sym, subst, ◌∙◌, append_assoc}
use Rattle.std.proofs.lemmas.List.{map-append, same_from_push}
use Rattle.can_levels.specs.declared.level.Level.{Level}
use Rattle.can_levels.specs.declared.level.Level.TheVariants.{Recessive}
use Rattle.can_levels.specs.declared.segment.Segment.{Segment}
use Rattle.can_levels.specs.Reading.{Begins, IsPastPart}
use Rattle.can_levels.specs.Segments.{IsNext}
use Rattle.lemmas.proofs.Lists.{last_of}
use Rattle.can_levels.proofs.Ending.{begins_front}
use Rattle.can_node_rules.specs.declared.cause.Cause.{Cause}
use Rattle.can_node_rules.specs.declared.cause.Cause.TheVariants.{Stuff as StuffError}
use Rattle.can_node_rules.specs.Bits.{Bit, recessive_bit, dominant_bit, recessive_bits, seen_of}
use Rattle.can_node_rules.proofs.Bits.Seen.{acknowledges_none, acknowledges_cons, seen-append}
use Rattle.can_node_rules.proofs.Bits.DrivenAlike.{never_dominant, seen_received}
use Rattle.can_levels.specs.Acknowledging.{IsAckDue}
use Rattle.can_node_rules.specs.Frames.{Acknowledges, AllAcknowledge, IsWithin, Breaks, BreaksOff}
use Rattle.can_node_rules.specs.Frames.Breaks.{stuff, form, check, own_ack}

-- the stuffed part that came whole came whole with more levels too
pub past_more : (l more : List Level) → IsPastPart l → IsPastPart (l ++ more)
past_more l more p = record {
  frame = p.frame;
  body = p.body;
  check = p.check;
  part = p.part;
  rest = p.rest ++ more;
  is_part = p.is_part;
  whole = ap (λ t. t ++ more) p.whole ∙ append_assoc p.part p.rest more;
}

-- an acknowledgement is due past the stuffed part alone
pub due_past : (l : List Level) → IsAckDue l → IsPastPart l
due_past l d = record {
  frame = d.frame;
  body = d.body;
  check = d.check;
  part = d.part;
  rest = Recessive ∷ [];
  is_part = d.is_part;
  whole = d.whole;
}

-- before its end a receiver drives recessive
pub acknowledges_recessive : (listen : Bool) (l : List Level) → (IsPastPart l → ⊥) → Acknowledges listen l Recessive
acknowledges_recessive true l unended = refl
acknowledges_recessive false l unended = λ due. unended (due_past l due)

-- and so it does in all bits up to the first after which the part may have come
pub all_recessive : (listen : Bool) (l before : List Level) (last : Level) → (IsPastPart (l ++ before) → ⊥) →
    AllAcknowledge listen l (recessive_bits (before ++ last ∷ []))
all_recessive listen l [] last unended =
    acknowledges_cons listen l (recessive_bit last) []
    (acknowledges_recessive listen l (λ p. unended (past_more l [] p))) (acknowledges_none listen (l ++ last ∷ []))
all_recessive listen l (u ∷ before) last unended =
    let P : List Level → Type 0 = λ t. IsPastPart t in
    acknowledges_cons listen l (recessive_bit u) (recessive_bits (before ++ last ∷ []))
    (acknowledges_recessive listen l (λ p. unended (past_more l (u ∷ before) p)))
    (all_recessive listen (l ++ u ∷ []) before last (λ p. unended (subst P (append_assoc l (u ∷ []) before) p)))

-- the levels of some bits, after the levels l, with those of more bits
joined : (l before : List Level) (front rest : List Bit) → recessive_bits before ≡ front ++ rest →
    l ++ before ≡ (l ++ seen_of front) ++ seen_of rest
joined l before front rest e =
    let same : before ≡ seen_of front ++ seen_of rest =
    sym (seen_received before) ∙ ap (λ (t : List Bit). seen_of t) e ∙ seen-append front rest in
    ap (λ t. l ++ t) same ∙ sym (append_assoc l (seen_of front) (seen_of rest))

-- nothing is wrong in levels with which a line begins, and of which none is past its stuffed part
nothing_wrong : (l before : List Level) (front rest : List Bit) (cause : Cause) →
    (IsPastPart (l ++ before) → ⊥) → Begins (l ++ before) → recessive_bits before ≡ front ++ rest →
    Breaks l front cause → ⊥
nothing_wrong l before front rest cause unended begun e (stuff wrong inside) =
    let P : List Level → Type 0 = λ t. Begins t in
    wrong.none (begins_front (l ++ seen_of front) (seen_of rest) (subst P (joined l before front rest e) begun))
nothing_wrong l before front rest cause unended begun e (form wrong past) =
    let P : List Level → Type 0 = λ t. Begins t in
    wrong.none (begins_front (l ++ seen_of front) (seen_of rest) (subst P (joined l before front rest e) begun))
nothing_wrong l before front rest cause unended begun e (check ahead whole wrong) =
    let P : List Level → Type 0 = λ t. IsPastPart t in
    let split : recessive_bits before ≡ ahead ++ (recessive_bit Recessive ∷ rest) =
    e ∙ ap (λ t. t ++ rest) whole ∙ append_assoc ahead (recessive_bit Recessive ∷ []) rest in
    let more = past_more (l ++ seen_of ahead) (seen_of (recessive_bit Recessive ∷ rest)) wrong.past in
    unended (subst P (sym (joined l before ahead (recessive_bit Recessive ∷ rest) split)) more)
nothing_wrong l before front rest cause unended begun e (own_ack ahead whole) =
    never_dominant before ahead rest Recessive
    (e ∙ ap (λ t. t ++ rest) whole ∙ append_assoc ahead (dominant_bit Recessive ∷ []) rest)

-- so the first fault is at the last level at the earliest
not_before : (l before : List Level) (last : Level) → (IsPastPart (l ++ before) → ⊥) → Begins (l ++ before) →
    (front rest : List Bit) (cause : Cause) → recessive_bits (before ++ last ∷ []) ≡ front ++ rest →
    Breaks l front cause → rest ≡ []
not_before l before last unended begun front rest cause e h =
    elim (last_of rest) [
      | inl none ↦ none
      | inr some ↦
          let split : recessive_bits before ++ recessive_bit last ∷ [] ≡ (front ++ some.0) ++ some.1 ∷ [] =
          sym (map-append recessive_bit before (last ∷ [])) ∙ e ∙ ap (λ t. front ++ t) some.2
          ∙ sym (append_assoc front some.0 (some.1 ∷ [])) in
          let same = same_from_push (recessive_bits before) (front ++ some.0) (recessive_bit last) some.1 split in
          absurd (nothing_wrong l before front some.0 cause unended begun same.0 h)
    ]

-- the receiver's fault: within the stuffed part a line goes on with the levels before the last one, and none with that
-- one
pub stuff_fault : (listen : Bool) (l before : List Level) (last : Level) (segment : Segment) (stuffed : Bool) →
    IsWithin (l ++ before) → (IsPastPart (l ++ before) → ⊥) → (Begins (l ++ (before ++ last ∷ [])) → ⊥) →
    IsNext (l ++ before) segment stuffed →
    BreaksOff listen l (recessive_bits (before ++ last ∷ [])) StuffError segment
stuff_fault listen l before last segment stuffed early unended dead next =
    let Early : List Level → Type 0 = λ t. IsWithin (l ++ t) in
    let Past : List Level → Type 0 = λ t. IsPastPart (l ++ t) in
    let Dead : List Level → Type 0 = λ t. Begins (l ++ t) in
    let Next : List Level → Type 0 = λ t. IsNext (l ++ t) segment stuffed in
    let whole : recessive_bits (before ++ last ∷ []) ≡ recessive_bits before ++ recessive_bit last ∷ [] =
    map-append recessive_bit before (last ∷ []) in
    let seen : seen_of (recessive_bits before) ≡ before = seen_received before in
    let all : seen_of (recessive_bits (before ++ last ∷ [])) ≡ before ++ last ∷ [] =
    seen_received (before ++ last ∷ []) in
    record {
      answers = all_recessive listen l before last unended;
      before = recessive_bits before;
      last = recessive_bit last;
      whole = whole;
      early = subst Early (sym seen) early;
      breaks = stuff (record {
        before = recessive_bits before;
        last = recessive_bit last;
        whole = whole;
        none = λ b. dead (subst Dead all b);
      })
          (λ p. unended (subst Past seen p));
      first = not_before l before last unended early.begun;
      stuff_bit = stuffed;
      site = subst Next (sym seen) next;
    }
