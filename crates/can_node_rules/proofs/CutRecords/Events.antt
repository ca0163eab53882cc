-- What a bit tells follows from the piece that it finished, and from the role after it.
use Rattle.std.proofs.Common.{◌≡◌, ◌&&◌, not, nat_le, Some, None, List, refl, sym, ap, ◌∙◌, if◌then◌else◌}
use Rattle.std.specs.Prelude.{slice_index_or}
use Rattle.can_node_rules.specs.declared.outcome.Outcome.TheVariants.{Sent, Failed}
use Rattle.can_node_rules.specs.Bits.{Bit}
use Rattle.can_node_rules.specs.Context.{ContextValue, is_held}
use Rattle.can_node_rules.specs.Pieces.{Place, Piece, received_by}
use Rattle.can_node_rules.specs.Pieces.Place.{AtReset, AtIntegration, AtIdle, AfterSof}
use Rattle.can_node_rules.specs.Pieces.Place.{AtLastEofBit, AtFlag, AtDelimiter, AtInterframeSpace}
use Rattle.can_node_rules.specs.Counting.{at_bit}
use Rattle.can_node_rules.specs.Effects.{closed, entering, own_step}
use Rattle.can_node_rules.specs.Events.{Step, sends_by, fault_by, lost_in, events_of}
use Rattle.can_node_rules.specs.Events.Step.{Within, Finishes}
use Rattle.can_node_rules.specs.FinishedPieces.{FinishedPiece, Count}
use Rattle.can_node_rules.specs.Outcomes.{closed_by}
use Rattle.can_node_rules.proofs.Machine.Changes.{enters}

-- the steps finish one piece, or none
abbrev pub FinishAlike : Step → Step → Type 0
FinishAlike Within Within = Unit {0}
FinishAlike Within (Finishes q m) = ⊥
FinishAlike (Finishes p n) Within = ⊥
FinishAlike (Finishes p n) (Finishes q m) = p ≡ q

pub finish_alike : (k : Count) (s t : Step) → closed_by k s ≡ closed_by k t → FinishAlike s t
finish_alike k Within Within e = tt
finish_alike k Within (Finishes q m) e = cc
finish_alike k (Finishes p n) Within e = cc
finish_alike k (Finishes p n) (Finishes q m) e =
    let x : FinishedPiece = record { piece = p; activation = 0; bits = 0 } in
    ap (λ (l : List FinishedPiece). (slice_index_or l 0 x).piece) e

-- the next place changes no counter
counts_kept : (next : Place) (piece : Piece) (before c : ContextValue) →
    ((entering next piece before c).tec ≡ c.tec) × ((entering next piece before c).off ≡ c.off)
counts_kept AtFlag piece before c = (refl, refl)
counts_kept AtIdle piece before c = (refl, refl)
counts_kept AfterSof piece before c = (refl, refl)
counts_kept AtReset piece before c = (refl, refl)
counts_kept AtIntegration piece before c = (refl, refl)
counts_kept AtLastEofBit piece before c = (refl, refl)
counts_kept AtDelimiter piece before c = (refl, refl)
counts_kept AtInterframeSpace piece before c = (refl, refl)

pub events_alike : (s t : Step) (c : ContextValue) (place : Place) (done : List Bit) (b : Bit) → FinishAlike s t →
    (events_of s c place done b).receiving ≡ (events_of t c place done b).receiving →
    events_of s c place done b ≡ events_of t c place done b
events_alike Within Within c place done b same role = refl
events_alike Within (Finishes q m) c place done b same role = absurd same
events_alike (Finishes p n) Within c place done b same role = absurd same
events_alike (Finishes p n) (Finishes q m) c place done b same role =
    let d = at_bit c place done b in
    let held : (closed p n d).held ≡ (closed q m d).held =
    (enters n p d (own_step p d)).0 ∙ ap (λ (r : Piece). (own_step r d).held) same
    ∙ sym (enters m q d (own_step q d)).0 in
    let tec : (closed p n d).tec ≡ (closed q m d).tec =
    (counts_kept n p d (own_step p d)).0 ∙ ap (λ (r : Piece). (own_step r d).tec) same
    ∙ sym (counts_kept m q d (own_step q d)).0 in
    let off : (closed p n d).off ≡ (closed q m d).off =
    (counts_kept n p d (own_step p d)).1 ∙ ap (λ (r : Piece). (own_step r d).off) same
    ∙ sym (counts_kept m q d (own_step q d)).1 in
    λ i. record {
      received = received_by (same i);
      ended = if nat_le 256 (tec i) then None
          else if sends_by (same i) then Some Sent
          else if is_held c.held && not (is_held (held i)) then Some Failed
          else None;
      lost = lost_in c place done b;
      fault = fault_by (same i);
      receiving = role i;
      went_off = nat_le 256 (tec i);
      recovered = c.off && not (off i);
    }
