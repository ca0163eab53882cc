-- What a bit does to the request that a node holds: it stays with its mark, or it ends.
use Rattle.std.proofs.Common.{◌≡◌, ◌&&◌, ◌||◌, not, Bool, true, false, nat_le, Some, None, is_some, List, inl, inr}
use Rattle.std.proofs.Common.{refl, sym, ap, ◌∙◌, if◌then◌else◌}
use Rattle.std.specs.Prelude.{slice_index_or}
use Rattle.can_node_rules.specs.declared.outcome.Outcome.TheVariants.{Sent, Failed}
use Rattle.can_node_rules.specs.Bits.{Bit}
use Rattle.can_node_rules.specs.Context.{ContextValue, is_held}
use Rattle.can_node_rules.specs.Pieces.{Place, Piece}
use Rattle.can_node_rules.specs.Pieces.Piece.{Integration, IdleBit, Reception, Transmission, Fault, LastEofBit, Flag}
use Rattle.can_node_rules.specs.Pieces.Piece.{Delimiter, InterframeSpace, InterframeSpaceWithSof, InterframeSpaceBroken}
use Rattle.can_node_rules.specs.Counting.{at_bit}
use Rattle.can_node_rules.specs.Effects.{closed, own_step}
use Rattle.can_node_rules.specs.Events.{Step, stepped, sends_by, sends_in, ended_in}
use Rattle.can_node_rules.specs.Events.Step.{Within, Finishes}
use Rattle.can_node_rules.specs.FinishedPieces.{Count, FinishedPiece}
use Rattle.can_node_rules.specs.Outcomes.{closed_by}
use Rattle.can_node_rules.proofs.Machine.Changes.{KeepsRequest, bit_changes, keeps_both, enters, end_keeps}

pub step_keeps : (step : Step) (c : ContextValue) (place : Place) (done : List Bit) (b : Bit) → KeepsRequest c
    (stepped step c place done b)
step_keeps Within c place done b = (bit_changes c place done b).request
step_keeps (Finishes piece next) c place done b =
    let d = at_bit c place done b in
    keeps_both c d (closed piece next d) (bit_changes c place done b).request (end_keeps piece next d)

-- ---- the end of a request

-- the request that is held after a step follows from the piece that it finishes
pub held_alike : (n m : Count) (step other : Step) (c : ContextValue) (place : Place) (done : List Bit) (b : Bit) →
    closed_by n step ≡ closed_by m other →
    (stepped step c place done b).held ≡ (stepped other c place done b).held
held_alike n m Within Within c place done b e = refl
held_alike n m Within (Finishes q s) c place done b e = absurd cc
held_alike n m (Finishes p t) Within c place done b e = absurd cc
held_alike n m (Finishes p t) (Finishes q s) c place done b e =
    let d = at_bit c place done b in
    let x : FinishedPiece = record { piece = p; activation = 0; bits = 0 } in
    let piece : p ≡ q = ap (λ (l : List FinishedPiece). (slice_index_or l 0 x).piece) e in
    (enters t p d (own_step p d)).0 ∙ ap (λ r. (own_step r d).held) piece ∙ sym (enters s q d (own_step q d)).0

sent_by : (piece : Piece) (c : ContextValue) → sends_by piece ≡ true → (own_step piece c).held ≡ None
sent_by (Transmission request) c e = refl
sent_by Integration c e = absurd cc
sent_by (Fault site cause segment) c e = absurd cc
sent_by Flag c e = absurd cc
sent_by IdleBit c e = absurd cc
sent_by (Reception f) c e = absurd cc
sent_by LastEofBit c e = absurd cc
sent_by Delimiter c e = absurd cc
sent_by InterframeSpace c e = absurd cc
sent_by InterframeSpaceWithSof c e = absurd cc
sent_by InterframeSpaceBroken c e = absurd cc

-- a request that was sent is held no more
pub sent_done : (step : Step) (c : ContextValue) (place : Place) (done : List Bit) (b : Bit) → sends_in step ≡ true →
    (stepped step c place done b).held ≡ None
sent_done Within c place done b e = absurd cc
sent_done (Finishes piece next) c place done b e =
    let d = at_bit c place done b in (enters next piece d (own_step piece d)).0 ∙ sent_by piece d e

-- ---- by what the bit tells

-- none is held after the bit exactly where one ended, or none was held before it
ends_as : (sends before after : Bool) → (sends ≡ true → after ≡ false) → (before ≡ false → after ≡ false) →
    not after ≡ (is_some (if sends then Some Sent else if before && not after then Some Failed else None) || not before)
ends_as true before false h k = refl
ends_as true before true h k = let no : true ≡ false = h refl in absurd cc
ends_as false true true h k = refl
ends_as false true false h k = refl
ends_as false false true h k = let no : true ≡ false = k refl in absurd cc
ends_as false false false h k = refl

pub keeps_none : (c d : ContextValue) → KeepsRequest c d → is_held c.held ≡ false → is_held d.held ≡ false
keeps_none c d (inl none) e = ap is_held none
keeps_none c d (inr h) e = ap is_held h.0 ∙ e

on_bus_ends : (off : Bool) (step : Step) (before after : ContextValue) → off ≡ false → is_some
    (if off then None else if sends_in step then Some Sent else if is_held before.held && not
    (is_held after.held) then Some Failed else None) ≡
    is_some (if sends_in step then Some Sent else if is_held before.held && not
    (is_held after.held) then Some Failed else None)
on_bus_ends false step before after e = refl
on_bus_ends true step before after e = absurd cc

pub ended_is : (step : Step) (c : ContextValue) (place : Place) (done : List Bit) (b : Bit) → nat_le 256
    (stepped step c place done b).tec ≡ false →
    not (is_held (stepped step c place done b).held) ≡
    (is_some (ended_in step c (stepped step c place done b)) || not (is_held c.held))
ended_is step c place done b on_bus =
    let d = stepped step c place done b in
    let e = ends_as (sends_in step) (is_held c.held) (is_held d.held)
    (λ sends. ap is_held (sent_done step c place done b sends))
    (keeps_none c d (step_keeps step c place done b)) in
    e ∙ ap (λ x. x || not (is_held c.held)) (sym (on_bus_ends (nat_le 256 d.tec) step c d on_bus))
