-- A list of levels is read in one way.
use Rattle.std.proofs.Common.{◌≡◌, ◌≢◌, List, [], ◌∷◌, ◌++◌, length, replicate, IfOk, IfErr}
use Rattle.std.proofs.Common.{Result, Ok, Err, refl, ap, sym, subst, ◌∙◌, append_assoc}
use Rattle.can_frame.specs.Frame.{FrameValue}
use Rattle.can_levels.specs.declared.level.Level.{Level}
use Rattle.can_levels.specs.declared.level.Level.TheVariants.{Dominant, Recessive}
use Rattle.can_levels.specs.declared.line_fault.LineFault.{LineFault}
use Rattle.can_levels.specs.declared.line_fault.LineFault.TheVariants.{Stuff, Form, Crc as CheckFault}
use Rattle.can_levels.specs.declared.line_fault.LineFault.TheVariants.{NoAck, Truncated, Trailing}
use Rattle.can_levels.specs.Check.{Crc}
use Rattle.can_levels.specs.Line.{StuffedPart}
use Rattle.can_levels.specs.Reading.{IsReceived, Begins, IsFaultless, IsOpen, IsInPart}
use Rattle.can_levels.specs.Reading.{BreaksAfter, HasWrongCheck, IsNotAcknowledged, IsFirstFault}
use Rattle.lemmas.proofs.Lists.{longer_not}
use Rattle.can_levels.proofs.Ending.{same_part, same_spelling}
use Rattle.can_levels.proofs.Whole.Faultless.{faultless_whole, whole_ends, faultless_check, faultless_ack}
use Rattle.can_levels.proofs.Whole.Stops.{Stops, stops_once, reaches, open_not_whole, received_once}
use Rattle.can_levels.proofs.Whole.Stops.Stops.{ends, breaks}

-- what a reading that stops after this front of the levels says
Says : List Level → List Level → Result FrameValue LineFault → Type 0
Says l p (Ok f) = (l ≡ p) × IsReceived f p
Says l p (Err Truncated) = (l ≡ p) × IsOpen p
Says l p (Err (Stuff at)) = (l ≢ p) × IsOpen p × IsInPart p × (length p ≡ at)
Says l p (Err (Form at)) = (l ≢ p) × IsOpen p × (¬ IsInPart p) × (length p ≡ at)
Says l p (Err (Trailing at)) = (l ≢ p) × ((f : FrameValue) × IsReceived f p) × (length p ≡ at)
Says l p (Err CheckFault) = ⊥
Says l p (Err NoAck) = ⊥

-- one front gives one answer
says_once : (l p : List Level) (v w : Result FrameValue LineFault) → Says l p v → Says l p w → v ≡ w
unfolding Says
says_once l p (Err CheckFault) w h k = absurd h
says_once l p (Err NoAck) w h k = absurd h
says_once l p (Ok f) (Err CheckFault) h k = absurd k
says_once l p (Ok f) (Err NoAck) h k = absurd k
says_once l p (Err Truncated) (Err CheckFault) h k = absurd k
says_once l p (Err Truncated) (Err NoAck) h k = absurd k
says_once l p (Err (Stuff a)) (Err CheckFault) h k = absurd k
says_once l p (Err (Stuff a)) (Err NoAck) h k = absurd k
says_once l p (Err (Form a)) (Err CheckFault) h k = absurd k
says_once l p (Err (Form a)) (Err NoAck) h k = absurd k
says_once l p (Err (Trailing a)) (Err CheckFault) h k = absurd k
says_once l p (Err (Trailing a)) (Err NoAck) h k = absurd k
says_once l p (Ok f) (Ok g) h k = ap Ok (received_once f g p h.1 k.1)
says_once l p (Ok f) (Err Truncated) h k = absurd (open_not_whole p k.1 h.1)
says_once l p (Ok f) (Err (Stuff a)) h k = absurd (k.0 h.0)
says_once l p (Ok f) (Err (Form a)) h k = absurd (k.0 h.0)
says_once l p (Ok f) (Err (Trailing a)) h k = absurd (k.0 h.0)
says_once l p (Err Truncated) (Ok g) h k = absurd (open_not_whole p h.1 k.1)
says_once l p (Err Truncated) (Err Truncated) h k = refl
says_once l p (Err Truncated) (Err (Stuff a)) h k = absurd (k.0 h.0)
says_once l p (Err Truncated) (Err (Form a)) h k = absurd (k.0 h.0)
says_once l p (Err Truncated) (Err (Trailing a)) h k = absurd (k.0 h.0)
says_once l p (Err (Stuff a)) (Ok g) h k = absurd (h.0 k.0)
says_once l p (Err (Stuff a)) (Err Truncated) h k = absurd (h.0 k.0)
says_once l p (Err (Stuff a)) (Err (Stuff b)) h k = ap (λ n. Err (Stuff n)) (sym h.3 ∙ k.3)
says_once l p (Err (Stuff a)) (Err (Form b)) h k = absurd (k.2 h.2)
says_once l p (Err (Stuff a)) (Err (Trailing b)) h k = absurd (open_not_whole p h.1 k.1.1)
says_once l p (Err (Form a)) (Ok g) h k = absurd (h.0 k.0)
says_once l p (Err (Form a)) (Err Truncated) h k = absurd (h.0 k.0)
says_once l p (Err (Form a)) (Err (Stuff b)) h k = absurd (h.2 k.2)
says_once l p (Err (Form a)) (Err (Form b)) h k = ap (λ n. Err (Form n)) (sym h.3 ∙ k.3)
says_once l p (Err (Form a)) (Err (Trailing b)) h k = absurd (open_not_whole p h.1 k.1.1)
says_once l p (Err (Trailing a)) (Ok g) h k = absurd (h.0 k.0)
says_once l p (Err (Trailing a)) (Err Truncated) h k = absurd (h.0 k.0)
says_once l p (Err (Trailing a)) (Err (Stuff b)) h k = absurd (open_not_whole p k.1 h.1.1)
says_once l p (Err (Trailing a)) (Err (Form b)) h k = absurd (open_not_whole p k.1 h.1.1)
says_once l p (Err (Trailing a)) (Err (Trailing b)) h k = ap (λ n. Err (Trailing n)) (sym h.2 ∙ k.2)

-- a reading that stops at some front
record Ended (l : List Level) (v : Result FrameValue LineFault) : Type 0 where
  front : List Level
  good : IsFaultless front
  stops : Stops l front
  says : Says l front v

ended_once : (l : List Level) (v w : Result FrameValue LineFault) → Ended l v → Ended l w → v ≡ w
ended_once l v w h k =
    let same = stops_once l h.front k.front h.stops k.stops h.good k.good in
    let P : List Level → Type 0 = λ p. Says l p w in
    says_once l h.front v w h.says (subst P (sym same) k.says)

-- what the definitions say of the answer
unfoldable pub Judged : List Level → Result FrameValue LineFault → Type 0
Judged l (Ok f) = IsReceived f l
Judged l (Err fault) = IsFirstFault l fault

-- up to the CRC delimiter after a wrong CRC sequence a line begins
part_begun : {f : FrameValue} {b c : List Level} (part : List Level) → StuffedPart f b c part →
    Begins (part ++ Recessive ∷ [])
part_begun {f = f} {b = b} {c = c} part h = record {
  frame = f;
  body = b;
  check = c;
  ack = Dominant;
  rest = Dominant ∷ Recessive ∷ replicate 7 Recessive;
  line = record {
    part = part;
    is_part = h;
    whole = append_assoc part (Recessive ∷ [])
        (Dominant ∷ Recessive ∷ replicate 7 Recessive);
  };
}

-- and up to an ACK error
slot_begun : {f : FrameValue} {b c : List Level} (part : List Level) → StuffedPart f b c part →
    Begins (part ++ Recessive ∷ Recessive ∷ [])
slot_begun {f = f} {b = b} {c = c} part h = record {
  frame = f;
  body = b;
  check = c;
  ack = Recessive;
  rest = Recessive ∷ replicate 7 Recessive;
  line = record {
    part = part;
    is_part = h;
    whole = append_assoc part (Recessive ∷ Recessive ∷ [])
        (Recessive ∷ replicate 7 Recessive);
  };
}

-- a wrong CRC sequence isn't among good levels
check_not_ended : (l : List Level) (v : Result FrameValue LineFault) → HasWrongCheck l → Ended l v → ⊥
check_not_ended l v h k =
    let p = h.past in
    let whole : l ≡ (p.part ++ Recessive ∷ []) ++ h.later =
    p.whole ∙ ap (λ r. p.part ++ r) h.delimiter ∙ sym (append_assoc p.part (Recessive ∷ []) h.later) in
    let (c, e) = reaches l k.front (p.part ++ Recessive ∷ []) h.later k.stops (part_begun p.part p.is_part) whole in
    h.wrong (faultless_check p.part c Recessive p.is_part (e ∙ append_assoc p.part (Recessive ∷ []) c) k.good)

-- nor is an ACK error
slot_not_ended : (l : List Level) (v : Result FrameValue LineFault) → IsNotAcknowledged l → Ended l v → ⊥
slot_not_ended l v h k =
    let p = h.past in
    let slot = Recessive ∷ Recessive ∷ [] in
    let whole : l ≡ (p.part ++ slot) ++ h.later =
    p.whole ∙ ap (λ r. p.part ++ r) h.slot ∙ sym (append_assoc p.part slot h.later) in
    let (c, e) = reaches l k.front (p.part ++ slot) h.later k.stops (slot_begun p.part p.is_part) whole in
    let wrong = faultless_ack p.part c Recessive Recessive p.is_part (e ∙ append_assoc p.part slot c) k.good in
    cc

-- a CRC sequence is right or wrong
check_or_slot : (l : List Level) → HasWrongCheck l → IsNotAcknowledged l → ⊥
check_or_slot l h k =
    let p = h.past in
    let q = k.past in
    let same = same_part p.rest q.rest p.is_part q.is_part (sym p.whole ∙ q.whole) in
    let P : List Level → Type 0 = λ s. StuffedPart q.frame q.body q.check s in
    let spells = same_spelling p.is_part (subst P (sym same) q.is_part) in
    h.wrong (subst (λ b. Crc b p.check) (sym spells.1) (subst (λ c. Crc q.body c) (sym spells.2) k.right))

-- an answer comes of a reading that stops, of a CRC error or of an ACK error
data Class (l : List Level) : Result FrameValue LineFault → Type 0 where
  stopped : {v : Result FrameValue LineFault} → Ended l v → Class l v
  wrong : {v : Result FrameValue LineFault} → v ≡ Err CheckFault → HasWrongCheck l → Class l v
  silent : {v : Result FrameValue LineFault} → v ≡ Err NoAck → IsNotAcknowledged l → Class l v

class_once : (l : List Level) (v w : Result FrameValue LineFault) → Class l v → Class l w → v ≡ w
class_once l v w (stopped h) (stopped k) = ended_once l v w h k
class_once l v w (stopped h) (wrong e k) = absurd (check_not_ended l v k h)
class_once l v w (stopped h) (silent e k) = absurd (slot_not_ended l v k h)
class_once l v w (wrong d h) (stopped k) = absurd (check_not_ended l w h k)
class_once l v w (wrong d h) (wrong e k) = d ∙ sym e
class_once l v w (wrong d h) (silent e k) = absurd (check_or_slot l h k)
class_once l v w (silent d h) (stopped k) = absurd (slot_not_ended l w h k)
class_once l v w (silent d h) (wrong e k) = absurd (check_or_slot l k h)
class_once l v w (silent d h) (silent e k) = d ∙ sym e

-- where a level breaks a line the levels don't end
breaks_stops : {p l : List Level} → BreaksAfter p l → Stops l p
breaks_stops h = breaks h.wrong h.rest h.whole h.none

breaks_not : {p l : List Level} → BreaksAfter p l → l ≢ p
breaks_not {p = p} h = λ same. longer_not p h.wrong h.rest (sym h.whole ∙ same)

classed : (l : List Level) (v : Result FrameValue LineFault) → Judged l v → Class l v
unfolding Judged Says
classed l (Ok f) h = stopped (record { front = l; good = faultless_whole h; stops = ends refl; says = (refl, h) })
classed l (Err (Stuff at)) (p, broke, inside, count) =
    stopped (record {
      front = p;
      good = broke.good.faultless;
      stops = breaks_stops broke;
      says = (breaks_not broke, broke.good, inside, count);
    })
classed l (Err (Form at)) (p, broke, outside, count) =
    stopped (record {
      front = p;
      good = broke.good.faultless;
      stops = breaks_stops broke;
      says = (breaks_not broke, broke.good, outside, count);
    })
classed l (Err CheckFault) h = wrong refl h
classed l (Err NoAck) h = silent refl h
classed l (Err Truncated) h = stopped (record { front = l; good = h.faultless; stops = ends refl; says = (refl, h) })
classed l (Err (Trailing at)) (p, on, count) =
    stopped (record {
      front = p;
      good = faultless_whole on.received;
      stops = breaks on.next on.rest on.whole (whole_ends on.next [] on.received);
      says = ((λ same. longer_not p on.next on.rest (sym on.whole ∙ same)), (on.frame, on.received), count);
    })

-- the definitions give one answer
pub judged_once : (l : List Level) (v w : Result FrameValue LineFault) → Judged l v → Judged l w → v ≡ w
judged_once l v w h k = class_once l v w (classed l v h) (classed l w k)

-- where an answer is as the definitions say, it is the only one
pub frame_only : (l : List Level) (v : Result FrameValue LineFault) → Judged l v → (f : FrameValue) → IsReceived f l →
    v ≡ Ok f
unfolding Judged
frame_only l v h f k = judged_once l v (Ok f) h k

pub fault_only : (l : List Level) (v : Result FrameValue LineFault) → Judged l v → (fault : LineFault) →
    IsFirstFault l fault → v ≡ Err fault
unfolding Judged
fault_only l v h fault k = judged_once l v (Err fault) h k

-- what two clauses say of an answer
pub judged_by : (l : List Level) (v : Result FrameValue LineFault) → IfOk v (λ f. IsReceived f l) →
    IfErr v (IsFirstFault l) → Judged l v
unfolding Judged
judged_by l (Ok f) h k = h
judged_by l (Err fault) h k = k
