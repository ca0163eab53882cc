-- What comes after a whole stuffed part, and whether a CRC sequence is right.
use Rattle.std.proofs.Common.{◌≡◌, ◌≢◌, ◌⊎◌, inl, inr, ℕ, zero, suc, List, [], ◌∷◌, ◌++◌}
use Rattle.std.proofs.Common.{length, replicate, refl, ap, sym, subst, ◌∙◌, arith, append_assoc}
use Rattle.std.proofs.lemmas.Bool.{cases_eq}
use Rattle.std.proofs.lemmas.List.{append-nil}
use Rattle.can_frame.specs.Frame.{FrameValue}
use Rattle.can_levels.specs.declared.level.Level.{Level}
use Rattle.can_levels.specs.declared.level.Level.TheVariants.{Dominant, Recessive}
use Rattle.can_levels.specs.Digits.{value}
use Rattle.can_levels.specs.Acknowledging.{IsAckDue}
use Rattle.can_levels.specs.Check.{Crc}
use Rattle.can_levels.specs.Line.{StuffedPart, Line, tail}
use Rattle.can_levels.specs.Reading.{Begins}
use Rattle.can_levels.specs.Streaming.{IsReadable}
use Rattle.can_levels.proofs.Values.{value-injective}
use Rattle.can_levels.proofs.Checks.{Crc_exists}
use Rattle.can_levels.proofs.Ending.{line_at, same_part, same_spelling}
use Rattle.can_node_rules.specs.Frames.{IsWithin}
use Rattle.can_levels.proofs.NextOnce.{after_once}

-- whether 15 levels are the CRC sequence of a body can be told
pub right_or_wrong : (b c : List Level) → length c ≡ 15 → Crc b c ⊎ (Crc b c → ⊥)
right_or_wrong b c count =
    let (known, right, only) = Crc_exists b in
    let P : List Level → Type 0 = λ m. Crc b m in
    elim (cases_eq (value c) (value known)) [
      | inl same ↦ inl (subst P (sym (value-injective c known (count ∙ sym right.count) same)) right)
      | inr differs ↦ inr (λ h. differs (ap value (only c h)))
    ]

-- an acknowledgement is due after a right CRC sequence
pub due_here : {f : FrameValue} {b c : List Level} (l part : List Level) → StuffedPart f b c part → Crc b c →
    l ≡ part ++ Recessive ∷ [] → IsAckDue l
due_here {f = f} {b = b} {c = c} l part h right whole =
    record { frame = f; body = b; check = c; part = part; is_part = h; right = right; whole = whole }

-- and after such a one alone
pub due_right : {f : FrameValue} {b c : List Level} (l part : List Level) → StuffedPart f b c part →
    l ≡ part ++ Recessive ∷ [] → IsAckDue l → Crc b c
due_right {f = f} {b = b} {c = c} l part h e due =
    let same = same_part (Recessive ∷ []) (Recessive ∷ []) h due.is_part (sym e ∙ due.whole) in
    let P : List Level → Type 0 = λ s. StuffedPart f b c s in
    let spells = same_spelling (subst P same h) due.is_part in
    subst (λ m. Crc m c) (sym spells.1) (subst (λ m. Crc due.body m) (sym spells.2) due.right)

-- it isn't due where another number of levels than one came after the part
pub not_due : {f : FrameValue} {b c : List Level} (l part after : List Level) → StuffedPart f b c part →
    l ≡ part ++ after → length after ≢ 1 → IsAckDue l → ⊥
not_due l part after h e other due =
    other (ap length (after_once l part due.part after (Recessive ∷ []) h due.is_part e due.whole))

-- nor within the part
pub within_not_due : {f : FrameValue} {b c : List Level} (l more : List Level) (x : Level) →
    StuffedPart f b c (l ++ x ∷ more) → IsAckDue l → ⊥
within_not_due l more x h due =
    let all : List Level = l ++ x ∷ more in
    let whole : all ≡ due.part ++ (Recessive ∷ x ∷ more) =
    ap (λ m. m ++ x ∷ more) due.whole ∙ append_assoc due.part (Recessive ∷ []) (x ∷ more) in
    let none = after_once all due.part all (Recessive ∷ x ∷ more) [] due.is_part h whole (sym (append-nil all)) in
    cc

-- recessive levels have no dominant one among them
no_dominant : (n : ℕ) (u v : List Level) → replicate n Recessive ≡ u ++ Dominant ∷ v → ⊥
no_dominant zero [] v e = cc
no_dominant zero (y ∷ u) v e = cc
no_dominant (suc n) [] v e = cc
no_dominant (suc n) (y ∷ u) v e = no_dominant n u v cc

-- a dominant level after a part and other levels than one of its tail
dominant_after : (ack : Level) (after more : List Level) → length after ≢ 1 →
    tail ack ≡ (after ++ Dominant ∷ []) ++ more → ⊥
dominant_after ack [] more other e = cc
dominant_after ack (x ∷ []) more other e = other refl
dominant_after ack (x ∷ y ∷ after) more other e =
    let rest : replicate 8 Recessive ≡ (after ++ Dominant ∷ []) ++ more = cc in
    no_dominant 8 after more (rest ∙ append_assoc after (Dominant ∷ []) more)

-- a dominant level is wrong there
pub dominant_wrong : {f : FrameValue} {b c : List Level} (l part after : List Level) → StuffedPart f b c part →
    l ≡ part ++ after → length after ≢ 1 →
    Begins (l ++ Dominant ∷ []) → ⊥
dominant_wrong l part after h e other begun =
    let P : List Level → Type 0 = λ m. Line begun.frame begun.body begun.check begun.ack (m ++ begun.rest) in
    let whole : l ++ Dominant ∷ [] ≡ part ++ (after ++ Dominant ∷ []) =
    ap (λ m. m ++ Dominant ∷ []) e ∙ append_assoc part after (Dominant ∷ []) in
    let on = line_at part (after ++ Dominant ∷ []) begun.rest h (subst P whole begun.line) in
    dominant_after begun.ack after begun.rest other on.tails

-- the first level after a part is recessive
first_after : (ack x : Level) (more : List Level) → tail ack ≡ (x ∷ []) ++ more → x ≡ Recessive
first_after ack x more e = cc

pub delimiter_here : {f : FrameValue} {b c : List Level} (l part after : List Level) → StuffedPart f b c part →
    l ≡ part ++ after → length after ≡ 1 → Begins l →
    l ≡ part ++ Recessive ∷ []
delimiter_here l part [] h e one begun = absurd (omega (arith, one))
delimiter_here l part (x ∷ y ∷ after) h e one begun = absurd (omega (arith, one))
delimiter_here l part (x ∷ []) h e one begun =
    let P : List Level → Type 0 = λ m. Line begun.frame begun.body begun.check begun.ack (m ++ begun.rest) in
    let on = line_at part (x ∷ []) begun.rest h (subst P e begun.line) in
    e ∙ ap (λ y. part ++ y ∷ []) (first_after begun.ack x begun.rest on.tails)

-- either level in the ACK slot is right so far, and has two levels after it
pub slot_good : {f : FrameValue} {b c : List Level} (l part : List Level) (ack : Level) → StuffedPart f b c part →
    l ≡ part ++ Recessive ∷ [] →
    IsReadable (l ++ ack ∷ []) × IsWithin (l ++ ack ∷ [])
slot_good {f = f} {b = b} {c = c} l part ack h e =
    let rest : List Level = Recessive ∷ replicate 7 Recessive in
    let line : Line f b c ack ((l ++ ack ∷ []) ++ rest) = record {
      part = part;
      is_part = h;
      whole = append_assoc l (ack ∷ []) rest ∙ ap (λ m. m ++ ack ∷ rest) e
          ∙ append_assoc part (Recessive ∷ []) (ack ∷ rest);
    } in
    let begun : Begins (l ++ ack ∷ []) =
    record { frame = f; body = b; check = c; ack = ack; rest = rest; line = line } in
    (record { begun = begun; right = λ few. absurd (omega (arith, few)) }, record { begun = begun; long = omega arith })
