-- Frames and verdicts beside each other.
use Rattle.std.proofs.Common.{◌≡◌, inl, inr, Option, Some, None, List, [], ◌∷◌, ◌++◌, refl, sym, ap, ◌∙◌, subst}
use Rattle.can_frame.specs.Frame.{FrameValue}
use Rattle.can_node_rules.specs.Context.{fresh}
use Rattle.can_node_rules.specs.Cut.{IsCut}
use Rattle.can_node_rules.specs.Events.{Step, received_in}
use Rattle.can_node_rules.specs.FinishedPieces.{Count, FinishedPiece, ReceivedFrame, none_yet, received}
use Rattle.can_node_rules.specs.Pieces.Place.{AtReset}
use Rattle.can_node_rules.specs.Record.{RecordEntry}
use Rattle.can_node_rules.specs.Outcomes.{closed_by}
use Rattle.can_node_rules.proofs.CutRecords.Receptions.{Among}
use Rattle.can_node_rules.proofs.OneCut.Longer.{received_now, received_both, received_more}
use Rattle.can_node_rules.proofs.OneCut.Through.{goes_through}
use Rattle.lemmas.specs.Picking.{Picks}
use Rattle.lemmas.specs.Picking.Picks.{nothing, picked, left}

-- ---- picked

pub record IsPartner {B : Type 0} (P : ReceivedFrame → Type 0) (R : ReceivedFrame → B → Type 0)
    (xs : List ReceivedFrame) (y : B) : Type 0 where
  pub frame : ReceivedFrame
  pub among : Among frame xs
  pub has : P frame
  pub beside : R frame y

one_further : {B : Type 0} (P : ReceivedFrame → Type 0) (R : ReceivedFrame → B → Type 0) (x : ReceivedFrame)
    (xs : List ReceivedFrame) (y : B) → IsPartner P R xs y → IsPartner P R (x ∷ xs) y
one_further P R x xs y h = record { frame = h.frame; among = inr h.among; has = h.has; beside = h.beside }

-- the frame that a verdict is on
pub frame_of : {B : Type 0} (P : ReceivedFrame → Type 0) (R : ReceivedFrame → B → Type 0) (xs : List ReceivedFrame)
    (zs ys more : List B) (y : B) → Picks P R xs zs → zs ≡ ys ++ y ∷ more → IsPartner P R xs y
frame_of P R xs zs [] more y nothing e = absurd cc
frame_of P R xs zs (u ∷ ys) more y nothing e = absurd cc
frame_of P R xs zs [] more y (picked x z p r rest) e =
    let same : z ≡ y = cc in
    record { frame = x; among = inl refl; has = p; beside = subst (λ v. R x v) same r }
frame_of P R xs zs (u ∷ ys) more y (picked {xs = l} {ys = m} x z p r rest) e =
    let later : m ≡ ys ++ y ∷ more = cc in
    one_further P R x l y (frame_of P R l m ys more y rest later)
frame_of P R xs zs ys more y (left {xs = l} x other rest) e =
    one_further P R x l y (frame_of P R l zs ys more y rest e)

-- what holds of none of the verdicts
abbrev pub OfNone : {B : Type 0} → (B → Type 0) → List B → Type 0
OfNone Q [] = Unit {0}
OfNone Q (y ∷ ys) = (Q y → ⊥) × OfNone Q ys

pub none_both : {B : Type 0} (Q : B → Type 0) (xs ys : List B) → OfNone Q xs → OfNone Q ys → OfNone Q (xs ++ ys)
none_both Q [] ys h k = k
none_both Q (x ∷ xs) ys h k = (h.0, none_both Q xs ys h.1 k)

-- a frame that has the property has a verdict
pub has_verdict : {B : Type 0} (P : ReceivedFrame → Type 0) (R : ReceivedFrame → B → Type 0) (Q : B → Type 0)
    (h : ReceivedFrame) (xs : List ReceivedFrame) (ys : List B) → Picks P R xs ys → Among h xs → P h →
    ((y : B) → R h y → Q y) → OfNone Q ys → ⊥
has_verdict P R Q h xs ys nothing among has makes none = absurd among
has_verdict P R Q h xs ys (picked x y p r rest) (inl is) has makes none =
    none.0 (makes y (subst (λ v. R v y) is r))
has_verdict P R Q h xs ys (picked {xs = l} {ys = m} x y p r rest) (inr among) has makes none =
    has_verdict P R Q h l m rest among has makes none.1
has_verdict P R Q h xs ys (left x other rest) (inl is) has makes none =
    other (subst (λ v. P v) (sym is) has)
has_verdict P R Q h xs ys (left {xs = l} x other rest) (inr among) has makes none =
    has_verdict P R Q h l ys rest among has makes none

-- ---- received

among_left : (h : ReceivedFrame) (xs ys : List ReceivedFrame) → Among h xs → Among h (xs ++ ys)
among_left h [] ys a = absurd a
among_left h (x ∷ xs) ys (inl is) = inl is
among_left h (x ∷ xs) ys (inr a) = inr (among_left h xs ys a)

among_right : (h : ReceivedFrame) (xs ys : List ReceivedFrame) → Among h ys → Among h (xs ++ ys)
among_right h [] ys a = a
among_right h (x ∷ xs) ys a = inr (among_right h xs ys a)

among_now : (f : Option FrameValue) (frame : FrameValue) (k : Count) → f ≡ Some frame →
    Among (record { frame = frame; activation = k.starts; bits = k.bits }) (received_now f k)
among_now None frame k e = absurd cc
among_now (Some f) frame k e =
    let same : f ≡ frame = cc in
    inl (ap (λ (x : FrameValue). let r : ReceivedFrame = record { frame = x; activation = k.starts; bits = k.bits } in
    r) same)

-- of a record with a bit more, and with more behind that, the frame that the bit tells is among those received
pub received_here : (with_bit more : List RecordEntry) (found others : List FinishedPiece) (k : Count)
    (step : Step) (frame : FrameValue) → IsCut with_bit (found ++ closed_by k step) → IsCut (with_bit ++ more) others →
    received_in step ≡ Some frame →
    Among (record { frame = frame; activation = k.starts; bits = k.bits }) (received others)
received_here with_bit more found others k step frame after whole is =
    let t = goes_through none_yet fresh after.context whole.context AtReset after.place whole.place with_bit
    (with_bit ++ more) after.rest more whole.rest (found ++ closed_by k step) others after.from whole.from refl in
    let h : ReceivedFrame = record { frame = frame; activation = k.starts; bits = k.bits } in
    let split : received others
    ≡ (received found ++ received_now (received_in step) k) ++ received t.later =
    ap received t.whole ∙ received_both (found ++ closed_by k step) t.later
    ∙ ap (λ l. l ++ received t.later) (received_more found k step) in
    subst (λ l. Among h l) (sym split)
    (among_left h (received found ++ received_now (received_in step) k) (received t.later)
    (among_right h (received found) (received_now (received_in step) k) (among_now (received_in step) frame k is)))
