-- What a longer record adds: the frames received of more pieces, and the counts of more entries.
use Rattle.std.proofs.Common.{◌≡◌, ◌≤◌, ℕ, Option, Some, None, List, [], ◌∷◌}
use Rattle.std.proofs.Common.{◌++◌, All, refl, ap, sym, subst, ◌∙◌, arith}
use Rattle.std.proofs.lemmas.List.Elements.{All-append, All-nil, All-cons}
use Rattle.can_frame.specs.Frame.{FrameValue}
use Rattle.can_node_rules.specs.Context.{ContextValue, fresh}
use Rattle.can_node_rules.specs.Record.{RecordEntry}
use Rattle.can_node_rules.specs.Record.RecordEntry.{OneBit, Start, Send, Abort, Stop, BusOff}
use Rattle.can_node_rules.specs.Pieces.{Place, Piece, received_by}
use Rattle.can_node_rules.specs.Pieces.Place.{AtReset}
use Rattle.can_node_rules.specs.FinishedPieces.{FinishedPiece, ReceivedFrame, received_if, received}
use Rattle.can_node_rules.specs.FinishedPieces.{Count, counted, counted_one, tagged, none_yet}
use Rattle.can_node_rules.specs.Cut.{IsCut, From}
use Rattle.can_node_rules.specs.Cut.From.{here, on}
use Rattle.can_node_rules.specs.Events.{Step, received_in}
use Rattle.can_node_rules.specs.Events.Step.{Within, Finishes}
use Rattle.can_node_rules.specs.Outcomes.{closed_by}
use Rattle.can_node_rules.proofs.OneCut.GoOn.{counted_both}

-- ---- the frames received

received_if-both : (f : Option FrameValue) (x : FinishedPiece) (a b : List ReceivedFrame) →
    received_if f x (a ++ b) ≡ received_if f x a ++ b
received_if-both None x a b = refl
received_if-both (Some f) x a b = refl

pub received_both : (a b : List FinishedPiece) → received (a ++ b) ≡ received a ++ received b
received_both [] b = refl
received_both (x ∷ a) b = ap (received_if (received_by x.piece) x) (received_both a b)
    ∙ received_if-both (received_by x.piece) x (received a) (received b)

-- the frame that a bit tells, as the cut has it
abbrev pub received_now : Option FrameValue → Count → List ReceivedFrame
received_now None k = []
received_now (Some f) k = (record { frame = f; activation = k.starts; bits = k.bits }) ∷ []

received_one : (f : Option FrameValue) (p : Piece) (k : Count) →
    received_if f (record { piece = p; activation = k.starts; bits = k.bits }) [] ≡ received_now f k
received_one None p k = refl
received_one (Some f) p k = refl

pub received_more : (found : List FinishedPiece) (k : Count) (step : Step) →
    received (found ++ closed_by k step) ≡ received found ++ received_now (received_in step) k
received_more found k Within = received_both found []
received_more found k (Finishes piece next) =
    received_both found (closed_by k (Finishes piece next))
    ∙ ap (λ l. received found ++ l) (received_one (received_by piece) piece k)

-- ---- the counts

-- the number of bits doesn't fall
one_within : (k : Count) (e : RecordEntry) → k.bits ≤ (counted_one k e).bits
one_within k (OneBit b) = omega arith
one_within k (Start config) = omega arith
one_within k (Send request) = omega arith
one_within k Abort = omega arith
one_within k Stop = omega arith
one_within k BusOff = omega arith

pub bits_within : (k : Count) (entries : List RecordEntry) → k.bits ≤ (counted k entries).bits
bits_within k [] = omega arith
bits_within k (e ∷ entries) = let a = one_within k e in let b =
    bits_within (counted_one k e) entries in omega (a, b, arith)

-- no finished piece ends after the last bit of the record
abbrev pub EndsBy : ℕ → FinishedPiece → Type 0
EndsBy n x = x.bits ≤ n

tagged_by : (k : Count) (n : ℕ) (ps : List Piece) → k.bits ≤ n → All (EndsBy n) (tagged k ps)
tagged_by k n [] h = All-nil (EndsBy n)
tagged_by k n (p ∷ ps) h = All-cons (EndsBy n) (record { piece = p; activation = k.starts; bits = k.bits })
    (tagged k ps) h (tagged_by k n ps h)

pub tags_within : (k : Count) (c end : ContextValue) (place last : Place) (entries rest : List RecordEntry)
    (found : List FinishedPiece) → From k c place entries found end last rest →
    All (EndsBy (counted k entries).bits) found
tags_within k c end place last entries rest found (here opened stays) = All-nil (EndsBy (counted k entries).bits)
tags_within k c end place last entries rest found
    (on {next = next} {site = site} {entries = a} {more = x} {ps = ps} {qs = later} move from) =
    let n = (counted k (a ++ x)).bits in
    let same = ap (λ (j : Count). j.bits) (counted_both k a x) in
    let most = bits_within (counted k a) x in
    let few : (counted k a).bits ≤ n = omega (same, most, arith) in
    let rest_by : All (EndsBy n) later =
    let P : ℕ → Type 0 = λ m. All (EndsBy m) later in
    subst P (sym same) (tags_within (counted k a) next end site last x rest later from) in
    All-append (EndsBy n) (tagged (counted k a) ps) later (tagged_by (counted k a) n ps few) rest_by

-- of a record's cut: so a frame whose number is that of the last bit is newly received
pub ends_within : (entries : List RecordEntry) (found : List FinishedPiece) → IsCut entries found →
    All (EndsBy (counted none_yet entries).bits) found
ends_within entries found cut = tags_within none_yet fresh cut.context AtReset cut.place entries cut.rest found cut.from
