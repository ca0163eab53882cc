-- What is wrong with a bit for a receiver.
use Rattle.std.proofs.Common.{◌≡◌, Bool, true, false, List, [], ◌∷◌, ◌++◌}
use Rattle.std.proofs.Common.{replicate, refl, ap, sym, subst, ◌∙◌, append_assoc}
use Rattle.std.proofs.lemmas.List.{same_from_push}
use Rattle.can_frame.specs.Frame.{FrameValue}
use Rattle.can_levels.specs.declared.level.Level.{Level}
use Rattle.can_levels.specs.declared.level.Level.TheVariants.{Dominant, Recessive}
use Rattle.can_levels.specs.Check.{Crc}
use Rattle.can_levels.specs.Line.{StuffedPart, Line, tail}
use Rattle.can_levels.specs.Reading.{Begins, IsPastPart}
use Rattle.can_levels.specs.Streaming.{EndsInWrongCheck}
use Rattle.can_levels.proofs.Ending.{line_at}
use Rattle.can_levels.proofs.Readables.{wrong_whole}
use Rattle.can_node_rules.specs.declared.cause.Cause.{Cause}
use Rattle.can_node_rules.specs.declared.cause.Cause.TheVariants.{Bit as BitError, Stuff as StuffError}
use Rattle.can_node_rules.specs.declared.cause.Cause.TheVariants.{Form as FormError, Crc as CheckError}
use Rattle.can_node_rules.specs.Bits.{Bit, recessive_bit, dominant_bit, seen_of}
use Rattle.can_levels.specs.Acknowledging.{IsAckDue}
use Rattle.can_node_rules.specs.Frames.{Acknowledges, AllAcknowledge, AckFits, Breaks}
use Rattle.can_node_rules.specs.Frames.Breaks.{stuff, form, check, own_ack}
use Rattle.can_node_rules.proofs.Bits.Seen.{seen_split}

-- a stuffed part and a front of its tail begin a line
pub tail_begins : {f : FrameValue} {b c l : List Level} (part front rest : List Level) (ack : Level) →
    StuffedPart f b c part → l ≡ part ++ front → tail ack ≡ front ++ rest → Begins l
tail_begins {f = f} {b = b} {c = c} part front rest ack h e split = record {
  frame = f;
  body = b;
  check = c;
  ack = ack;
  rest = rest;
  line = record {
    part = part;
    is_part = h;
    whole = ap (λ m. m ++ rest) e ∙ append_assoc part front rest
        ∙ ap (λ m. part ++ m) (sym split);
  };
}

-- one level more after a front of some levels
pub more_after : (l part front : List Level) (x : Level) → l ≡ part ++ front → l ++ x ∷ [] ≡ part ++ (front ++ x ∷ [])
more_after l part front x e = ap (λ m. m ++ x ∷ []) e ∙ append_assoc part front (x ∷ [])

-- where the ACK slot is next either level begins a line
pub slot_begins : (l : List Level) (x : Level) → IsAckDue l → Begins (l ++ x ∷ [])
slot_begins l x due =
    tail_begins due.part (Recessive ∷ x ∷ []) (Recessive ∷ replicate 7 Recessive) x due.is_part
    (more_after l due.part (Recessive ∷ []) x due.whole) refl

-- a recessive ACK delimiter begins a line, also after a wrong CRC sequence
pub delimiter_begins : (l : List Level) → EndsInWrongCheck l → Begins (l ++ Recessive ∷ [])
delimiter_begins l w =
    tail_begins w.past.part (Recessive ∷ w.ack ∷ Recessive ∷ []) (replicate 7 Recessive) w.ack w.past.is_part
    (more_after l w.past.part (Recessive ∷ w.ack ∷ []) Recessive (wrong_whole l w)) refl

-- what is wrong with a bit for a receiver that saw these levels
pub data Wrong (listen : Bool) (l : List Level) (x : Bit) : Cause → Type 0 where
  wrong_stuff : (IsPastPart l → ⊥) → (Begins (l ++ x.seen ∷ []) → ⊥) → Wrong listen l x StuffError
  wrong_form : IsPastPart l → (Begins (l ++ x.seen ∷ []) → ⊥) → Wrong listen l x FormError
  wrong_check : x ≡ recessive_bit Recessive → EndsInWrongCheck l → Wrong listen l x CheckError
  lost_ack : listen ≡ false → x ≡ dominant_bit Recessive → IsAckDue l → Wrong listen l x BitError

-- a receiver drives dominant in the ACK slot alone, and not where it only listens
pub dominant_due : (listen : Bool) (l : List Level) (x : Bit) (y : Level) → x ≡ dominant_bit y →
    Acknowledges listen l x.driven → (listen ≡ false) × IsAckDue l
dominant_due true l x y e h =
    let driven : x.driven ≡ Dominant = ap (λ (b : Bit). b.driven) e in
    let wrong : Dominant ≡ Recessive = sym driven ∙ h in
    cc
dominant_due false l x y e h =
    let P : Level → Type 0 = λ z. Acknowledges false l z in
    (refl, subst P (ap (λ (b : Bit). b.driven) e) h)

-- a fault is one of the last bit
pub breaks_at : (listen : Bool) (l : List Level) (before : List Bit) (last : Bit) (bits : List Bit) (cause : Cause) →
    AllAcknowledge listen l bits → bits ≡ before ++ last ∷ [] → Breaks l bits cause →
    Wrong listen (l ++ seen_of before) last cause
breaks_at listen l before last bits cause answers e (stuff wrong inside) =
    let same = same_from_push before wrong.before last wrong.last (sym e ∙ wrong.whole) in
    let P : List Bit → Type 0 = λ m. IsPastPart (l ++ seen_of m) in
    let Q : List Level → Type 0 = λ m. Begins m in
    wrong_stuff (λ past. inside (subst P same.0 past))
    (λ begun. wrong.none (subst Q (sym (seen_split l bits before (last ∷ []) e)) begun))
breaks_at listen l before last bits cause answers e (form wrong past) =
    let same = same_from_push before wrong.before last wrong.last (sym e ∙ wrong.whole) in
    let P : List Bit → Type 0 = λ m. IsPastPart (l ++ seen_of m) in
    let Q : List Level → Type 0 = λ m. Begins m in
    wrong_form (subst P (sym same.0) past)
    (λ begun. wrong.none (subst Q (sym (seen_split l bits before (last ∷ []) e)) begun))
breaks_at listen l before last bits cause answers e (check other d ends) =
    let same = same_from_push before other last (recessive_bit Recessive) (sym e ∙ d) in
    let P : List Bit → Type 0 = λ m. EndsInWrongCheck (l ++ seen_of m) in
    wrong_check same.1 (subst P (sym same.0) ends)
breaks_at listen l before last bits cause answers e (own_ack other d) =
    let same = same_from_push before other last (dominant_bit Recessive) (sym e ∙ d) in
    let P : List Bit → Type 0 = λ m. AllAcknowledge listen l m in
    let due = dominant_due listen (l ++ seen_of before) last Recessive same.1 (answers before [] last e) in
    lost_ack due.0 same.1 due.1

-- neither a stuff bit nor a fixed level is wrong where a CRC sequence is
check_not_form : (l : List Level) (x : Bit) → x ≡ recessive_bit Recessive → EndsInWrongCheck l →
    Begins (l ++ x.seen ∷ [])
check_not_form l x e w =
    let P : Level → Type 0 = λ y. Begins (l ++ y ∷ []) in
    subst P (sym (ap (λ (b : Bit). b.seen) e)) (delimiter_begins l w)

-- a bit isn't driven both ways
received_or_dominant : (x : Bit) (y z : Level) → x ≡ recessive_bit y → x ≡ dominant_bit z → ⊥
received_or_dominant x y z e d =
    let wrong : Recessive ≡ Dominant = ap (λ (b : Bit). b.driven) (sym e ∙ d) in
    cc

-- one cause is wrong with a bit
pub wrong_once : (listen : Bool) (l : List Level) (x : Bit) (c d : Cause) → Wrong listen l x c → Wrong listen l x d →
    c ≡ d
wrong_once listen l x c d (wrong_stuff h none) (wrong_stuff k never) = refl
wrong_once listen l x c d (wrong_stuff h none) (wrong_form k never) = absurd (h k)
wrong_once listen l x c d (wrong_stuff h none) (wrong_check e w) = absurd (none (check_not_form l x e w))
wrong_once listen l x c d (wrong_stuff h none) (lost_ack s e due) = absurd (none (slot_begins l x.seen due))
wrong_once listen l x c d (wrong_form h none) (wrong_stuff k never) = absurd (k h)
wrong_once listen l x c d (wrong_form h none) (wrong_form k never) = refl
wrong_once listen l x c d (wrong_form h none) (wrong_check e w) = absurd (none (check_not_form l x e w))
wrong_once listen l x c d (wrong_form h none) (lost_ack s e due) = absurd (none (slot_begins l x.seen due))
wrong_once listen l x c d (wrong_check e w) (wrong_stuff k never) = absurd (never (check_not_form l x e w))
wrong_once listen l x c d (wrong_check e w) (wrong_form k never) = absurd (never (check_not_form l x e w))
wrong_once listen l x c d (wrong_check e w) (wrong_check h v) = refl
wrong_once listen l x c d (wrong_check e w) (lost_ack s h due) = absurd (received_or_dominant x Recessive Recessive e h)
wrong_once listen l x c d (lost_ack s e due) (wrong_stuff k never) = absurd (never (slot_begins l x.seen due))
wrong_once listen l x c d (lost_ack s e due) (wrong_form k never) = absurd (never (slot_begins l x.seen due))
wrong_once listen l x c d (lost_ack s e due) (wrong_check h w) = absurd (received_or_dominant x Recessive Recessive h e)
wrong_once listen l x c d (lost_ack s e due) (lost_ack t h other) = refl

-- nothing is wrong with a bit of a line with a right CRC sequence, acknowledged where that is needed
pub line_not_wrong : (listen : Bool) (l : List Level) (x : Bit) (cause : Cause) (f : FrameValue) (b c : List Level)
    (ack : Level) (rest : List Level) →
    Line f b c ack ((l ++ x.seen ∷ []) ++ rest) → Crc b c → AckFits listen ack → Wrong listen l x cause → ⊥
line_not_wrong listen l x cause f b c ack rest line right fits (wrong_stuff inside none) =
    none (record { frame = f; body = b; check = c; ack = ack; rest = rest; line = line })
line_not_wrong listen l x cause f b c ack rest line right fits (wrong_form past none) =
    none (record { frame = f; body = b; check = c; ack = ack; rest = rest; line = line })
line_not_wrong listen l x cause f b c ack rest line right fits (wrong_check e w) =
    let P : List Level → Type 0 = λ m. Line f b c ack (m ++ rest) in
    let p = w.past in
    let whole = more_after l p.part (Recessive ∷ w.ack ∷ []) x.seen (wrong_whole l w) in
    let on = line_at p.part (Recessive ∷ w.ack ∷ x.seen ∷ []) rest p.is_part (subst P whole line) in
    w.wrong (subst (λ m. Crc m p.check) (sym on.body) (subst (λ m. Crc b m) (sym on.check) right))
line_not_wrong listen l x cause f b c ack rest line right fits (lost_ack s e due) =
    let P : List Level → Type 0 = λ m. Line f b c ack (m ++ rest) in
    let whole = more_after l due.part (Recessive ∷ []) x.seen due.whole in
    let on = line_at due.part (Recessive ∷ x.seen ∷ []) rest due.is_part (subst P whole line) in
    let tails : tail ack ≡ Recessive ∷ x.seen ∷ rest = on.tails in
    let seen : x.seen ≡ Recessive = ap (λ (b : Bit). b.seen) e in
    let same : ack ≡ x.seen = cc in
    let answered : ack ≡ Dominant = subst (λ t. AckFits t ack) s fits in
    let wrong : Recessive ≡ Dominant = sym seen ∙ sym same ∙ answered in
    cc
