-- Each frame of a node was received in an activation that had begun.
use Rattle.std.proofs.Common.{◌≡◌, ℕ, ◌≤◌, Option, Some, None, List, [], ◌∷◌, ◌++◌, sym, subst, arith}
use Rattle.can_frame.specs.Frame.{FrameValue}
use Rattle.can_node_rules.specs.Context.{ContextValue}
use Rattle.can_node_rules.specs.Pieces.{Place, Piece, received_by}
use Rattle.can_node_rules.specs.Record.{RecordEntry as Event}
use Rattle.can_node_rules.specs.Record.RecordEntry.{Start, Stop, OneBit, Send, Abort, BusOff}
use Rattle.can_node_rules.specs.FinishedPieces.{Count, FinishedPiece, ReceivedFrame, counted, counted_one, none_yet}
use Rattle.can_node_rules.specs.FinishedPieces.{tagged}
use Rattle.can_node_rules.specs.FinishedPieces.{received_if, received}
use Rattle.can_node_rules.specs.Cut.{From, IsCut}
use Rattle.can_node_rules.specs.Cut.From.{here, on}
use Rattle.can_node_rules.proofs.OneCut.GoOn.{counted_both}
use Rattle.sja_journal.proofs.Ledger.Judging.{HasBegun}

one_more : (k : Count) (e : Event) → k.starts ≤ (counted_one k e).starts
one_more k (OneBit b) = omega arith
one_more k (Start config) = omega arith
one_more k (Send request) = omega arith
one_more k Abort = omega arith
one_more k Stop = omega arith
one_more k BusOff = omega arith

more_starts : (k : Count) (entries : List Event) → k.starts ≤ (counted k entries).starts
more_starts k [] = omega arith
more_starts k (e ∷ entries) = let x = one_more k e in let y =
    more_starts (counted_one k e) entries in omega (arith, x, y)

begun_if : (n : ℕ) (o : Option FrameValue) (f : FinishedPiece) (more : List ReceivedFrame) → f.activation ≤ n →
    HasBegun n more → HasBegun n (received_if o f more)
begun_if n None f more few h = h
begun_if n (Some w) f more few h = (few, h)

begun_tagged : (n : ℕ) (k : Count) (ps : List Piece) (more : List FinishedPiece) → k.starts ≤ n →
    HasBegun n (received more) → HasBegun n (received (tagged k ps ++ more))
begun_tagged n k [] more few h = h
begun_tagged n k (p ∷ ps) more few h =
    begun_if n (received_by p) (record { piece = p; activation = k.starts; bits = k.bits })
    (received (tagged k ps ++ more)) few (begun_tagged n k ps more few h)

from_begun : {k : Count} {c end : ContextValue} {place last : Place} {entries rest : List Event}
    {found : List FinishedPiece} →
    From k c place entries found end last rest → HasBegun (counted k entries).starts (received found)
from_begun (here opened stays) = tt
from_begun {k = k} (on {entries = first} {more = more} {ps = ps} {qs = qs} move from) =
    let n = (counted k (first ++ more)).starts in
    let e : counted k (first ++ more) ≡ counted (counted k first) more = counted_both k first more in
    let later : HasBegun n (received qs) = subst (λ (i : Count). HasBegun i.starts (received qs))
    (sym e) (from_begun from) in
    let few : (counted k first).starts ≤ n = subst (λ (i : Count). (counted k first).starts ≤ i.starts) (sym e)
    (more_starts (counted k first) more) in
    begun_tagged n (counted k first) ps qs few later

pub cut_begun : (entries : List Event) (found : List FinishedPiece) → IsCut entries found →
    HasBegun (counted none_yet entries).starts (received found)
cut_begun entries found cut = from_begun cut.from
