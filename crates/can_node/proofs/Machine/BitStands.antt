-- A node that stands at a record stands, after a bit, at the record with it.
use Rattle.std.proofs.Common.{◌≡◌, ◌≢◌, ◌<◌, ◌≤◌, List, [], ◌∷◌, ◌++◌, refl, ap, sym, subst, ◌∙◌, arith, append_assoc}
use Rattle.std.proofs.lemmas.List.{append-nil}
use Rattle.can_bits.specs.declared.shift.Shift.{Shift}
use Rattle.can_node.specs.declared.stage.Stage.{Stage}
use Rattle.can_node.specs.declared.stage.Stage.TheVariants.{InReset as StageInReset}
use Rattle.can_node.specs.declared.node.Node.{Node}
use Rattle.can_node_rules.specs.Bits.{Bit}
use Rattle.can_node_rules.specs.Context.{ContextValue, fresh}
use Rattle.can_node_rules.specs.Pieces.{Place, Piece}
use Rattle.can_node_rules.specs.Pieces.Place.{AtReset}
use Rattle.can_node_rules.specs.Record.{RecordEntry, bits_in}
use Rattle.can_node_rules.specs.Record.RecordEntry.{OneBit, BusOff}
use Rattle.can_node_rules.specs.Counting.{at_bit}
use Rattle.can_node_rules.specs.Effects.{along, after, with_off, closed}
use Rattle.can_node_rules.specs.Table.{Row}
use Rattle.can_node_rules.specs.Cut.{IsUnfinished, IsOnBus, Move, From, FinishedPiece, Count, none_yet, counted, tagged}
use Rattle.can_node_rules.specs.Cut.Move.{piece, off_within, off_after}
use Rattle.can_node_rules.specs.Driving.{Drives}
use Rattle.can_node.specs.Standing.{context_of}
use Rattle.can_node.specs.Stages.{At}
use Rattle.can_node.specs.Stands.{StandsAt, FollowsAt}
use Rattle.can_node_rules.proofs.Machine.Along.{along-bit}
use Rattle.can_node_rules.proofs.OneCut.GoOn.{counted_both, open_end, stays_end, move_on, open_on, no_rest_piece}
use Rattle.can_node_rules.proofs.OneCut.GoOn.{slice_open}
use Rattle.can_node.proofs.Machine.Sampling.{bits_push, some_bit, open_at, pushed_open}

-- a piece stands at no rest
pub piece_away : {c : ContextValue} {bits : List Bit} {p : Piece} {next : Place} (place : Place) →
    Row c place bits p next → place ≢ AtReset
piece_away {c = c} {bits = bits} {p = p} {next = next} place row e = let P : Place → Type 0 =
    λ s. Row c s bits p next in no_rest_piece (subst P e row)

-- nor does bus-off come in one
off_away : (c : ContextValue) (place : Place) (bits : List Bit) (b : Bit) → IsOnBus c →
    256 ≤ (at_bit c place bits b).tec → place ≢ AtReset
off_away c place bits b stays off e =
    let P : Place → Type 0 = λ s. 256 ≤ (at_bit c s bits b).tec in
    let same : 256 ≤ c.tec = subst P e off in
    omega (arith, same, stays)

-- ---- the piece under way goes on

unfoldable pub goes_stands : (old new : Node) (entries : List RecordEntry) (found : List FinishedPiece)
    (h : StandsAt old entries found) (b : Bit) (stage : Stage) (shift : Shift) →
    let now = along h.cut.context h.cut.place [] h.cut.rest in let d = at_bit now h.cut.place (bits_in h.cut.rest) b in
    Drives now h.cut.place (bits_in h.cut.rest) b.driven →
    At stage shift h.cut.context d h.cut.place (bits_in h.cut.rest ++ b ∷ []) → d.tec < 256 →
    context_of new.context ≡ d → new.stage ≡ stage → new.shift ≡ shift → FollowsAt new (entries ++ OneBit b ∷ []) found
goes_stands old new entries found h b stage shift drives at few shows same_stage same_shift =
    let slice = h.cut.rest ++ OneBit b ∷ [] in
    let whole = along-bit h.cut.context h.cut.place h.cut.rest b in
    let now = at_bit (along h.cut.context h.cut.place [] h.cut.rest) h.cut.place (bits_in h.cut.rest) b in
    let opened = pushed_open stage shift h.cut.context now h.cut.place h.cut.rest b (open_end h.cut.from) drives at in
    let stays : IsOnBus (along h.cut.context h.cut.place [] slice) = subst (λ c. IsOnBus c) (sym whole) few in
    let P : ContextValue → Type 0 = λ c. At stage shift h.cut.context c h.cut.place (bits_in h.cut.rest ++ b ∷ []) in
    let Q : List Bit → Type 0 = λ l. At stage shift h.cut.context (along h.cut.context h.cut.place [] slice) h.cut.place
    l in
    let R : Stage → Type 0 = λ s. At s shift h.cut.context (along h.cut.context h.cut.place [] slice) h.cut.place
    (bits_in slice) in
    let S : Shift → Type 0 = λ s. At new.stage s h.cut.context (along h.cut.context h.cut.place [] slice) h.cut.place
    (bits_in slice) in
    record {
      cut = record {
        context = h.cut.context;
        place = h.cut.place;
        rest = slice;
        from = open_on (OneBit b ∷ []) h.cut.from opened stays;
      };
      shows = shows ∙ sym whole;
      at = subst S (sym same_shift) (subst R (sym same_stage)
          (subst Q (sym (bits_push h.cut.rest b)) (subst P (sym whole) at)));
    }

-- ---- the piece ends

-- with this bit the entries are the piece, and this is the context after it
pub record EndsWith (c : ContextValue) (place : Place) (rest : List RecordEntry) (b : Bit) (p : Piece)
    (next : Place) : Type 0
  where
    whole : after c place (rest ++ OneBit b ∷ []) p next
        ≡ closed p next (at_bit (along c place [] rest) place (bits_in rest) b)
    lawful : Row c place (bits_in (rest ++ OneBit b ∷ [])) p next

pub ends_with : (c : ContextValue) (place : Place) (rest : List RecordEntry) (b : Bit) (p : Piece) (next : Place) →
    Row c place (bits_in rest ++ b ∷ []) p next → EndsWith c place rest b p next
ends_with c place rest b p next row =
    let P : List Bit → Type 0 = λ l. Row c place l p next in
    record {
      whole = ap (λ k. closed p next k) (along-bit c place rest b);
      lawful = subst P (sym (bits_push rest b)) row;
    }

unfoldable pub closes_stands : (old new : Node) (entries : List RecordEntry) (found : List FinishedPiece)
    (h : StandsAt old entries found) (b : Bit) (stage : Stage) (shift : Shift) (p : Piece) (next : Place) →
    let n = closed p next (at_bit (along h.cut.context h.cut.place [] h.cut.rest) h.cut.place (bits_in h.cut.rest) b) in
    Row h.cut.context h.cut.place (bits_in h.cut.rest ++ b ∷ []) p next → At stage shift n n next [] → n.tec < 256 →
    context_of new.context ≡ n → new.stage ≡ stage → new.shift ≡ shift →
    FollowsAt new (entries ++ OneBit b ∷ []) (found ++ tagged (counted none_yet (entries ++ OneBit b ∷ [])) (p ∷ []))
closes_stands old new entries found h b stage shift p next row at few shows same_stage same_shift =
    let slice = h.cut.rest ++ OneBit b ∷ [] in
    let n = closed p next (at_bit (along h.cut.context h.cut.place [] h.cut.rest) h.cut.place (bits_in h.cut.rest) b) in
    let ends = ends_with h.cut.context h.cut.place h.cut.rest b p next row in
    let stays : IsOnBus (after h.cut.context h.cut.place slice p next) = subst (λ c. IsOnBus c) (sym ends.whole) few in
    let Q : ContextValue → Type 0 = λ c. Move h.cut.context h.cut.place slice (p ∷ []) c next in
    let move : Move h.cut.context h.cut.place slice (p ∷ []) n next =
    subst Q ends.whole
    (piece slice (slice_open b (piece_away h.cut.place row) (open_end h.cut.from)) ends.lawful stays) in
    let R : Stage → Type 0 = λ s. At s shift n n next [] in
    let S : Shift → Type 0 = λ s. At new.stage s n n next [] in
    record {
      cut = record {
        context = n;
        place = next;
        rest = [];
        from = move_on (OneBit b ∷ []) (p ∷ []) h.cut.from move few;
      };
      shows = shows;
      at = subst S (sym same_shift) (subst R (sym same_stage) at);
    }

-- ---- bus-off

-- after it the node rests
off_rests : (node : Node) (c : ContextValue) → node.stage ≡ StageInReset →
    At node.stage node.shift (with_off c) (with_off c) AtReset []
off_rests node c reset =
    let P : Stage → Type 0 = λ s. At s node.shift (with_off c) (with_off c) AtReset [] in
    subst P (sym reset) (refl, refl)

-- the counts after a bit, and after bus-off too
off_counts : (entries : List RecordEntry) (b : Bit) →
    counted none_yet (entries ++ OneBit b ∷ BusOff ∷ []) ≡ counted none_yet (entries ++ OneBit b ∷ [])
off_counts entries b = counted_both none_yet entries (OneBit b ∷ BusOff ∷ [])
    ∙ sym (counted_both none_yet entries (OneBit b ∷ []))

-- within a piece
pub off_goes : (old new : Node) (entries : List RecordEntry) (found : List FinishedPiece)
    (h : StandsAt old entries found)
    (b : Bit) (stage : Stage) (shift : Shift) →
    let now = along h.cut.context h.cut.place [] h.cut.rest in let d = at_bit now h.cut.place (bits_in h.cut.rest) b in
    At stage shift h.cut.context d h.cut.place (bits_in h.cut.rest ++ b ∷ []) → 256 ≤ d.tec →
    context_of new.context ≡ with_off d → new.stage ≡ StageInReset →
    FollowsAt new (entries ++ OneBit b ∷ BusOff ∷ []) found
off_goes old new entries found h b stage shift at off shows reset =
    let slice = h.cut.rest ++ OneBit b ∷ [] in
    let now = along h.cut.context h.cut.place [] h.cut.rest in
    let d = at_bit now h.cut.place (bits_in h.cut.rest) b in
    let whole = along-bit h.cut.context h.cut.place h.cut.rest b in
    let stays = stays_end h.cut.from in
    let away = off_away now h.cut.place (bits_in h.cut.rest) b stays off in
    let unfinished = open_at stage shift h.cut.context d h.cut.place (bits_in h.cut.rest ++ b ∷ []) away
    (some_bit (bits_in h.cut.rest) b) at in
    let P : List Bit → Type 0 = λ l. IsUnfinished h.cut.context h.cut.place l in
    let far : 256 ≤ (along h.cut.context h.cut.place [] slice).tec =
    subst (λ (c : ContextValue). 256 ≤ c.tec) (sym whole) off in
    let Q : ContextValue → Type 0 =
    λ c. Move h.cut.context h.cut.place (slice ++ BusOff ∷ []) [] (with_off c) AtReset in
    let move : Move h.cut.context h.cut.place (slice ++ BusOff ∷ []) [] (with_off d) AtReset =
    subst Q whole (off_within slice h.cut.rest b refl stays (slice_open b away (open_end h.cut.from))
    (subst P (sym (bits_push h.cut.rest b)) unfinished) far) in
    let R : List RecordEntry → Type 0 = λ l. Move h.cut.context h.cut.place l [] (with_off d) AtReset in
    let S : List FinishedPiece → Type 0 =
    λ l. From none_yet fresh AtReset (entries ++ OneBit b ∷ BusOff ∷ []) l (with_off d) AtReset [] in
    record {
      cut = record {
        context = with_off d;
        place = AtReset;
        rest = [];
        from = subst S (append-nil found)
            (move_on (OneBit b ∷ BusOff ∷ []) [] h.cut.from
            (subst R (append_assoc h.cut.rest (OneBit b ∷ []) (BusOff ∷ [])) move) (omega arith));
      };
      shows = shows;
      at = off_rests new d reset;
    }

-- at the end of a piece
pub off_closes : (old new : Node) (entries : List RecordEntry) (found : List FinishedPiece)
    (h : StandsAt old entries found)
    (b : Bit) (p : Piece) (next : Place) →
    let n = closed p next (at_bit (along h.cut.context h.cut.place [] h.cut.rest) h.cut.place (bits_in h.cut.rest) b) in
    Row h.cut.context h.cut.place (bits_in h.cut.rest ++ b ∷ []) p next → 256 ≤ n.tec →
    context_of new.context ≡ with_off n → new.stage ≡ StageInReset →
    FollowsAt new (entries ++ OneBit b ∷ BusOff ∷ [])
    (found ++ tagged (counted none_yet (entries ++ OneBit b ∷ [])) (p ∷ []))
off_closes old new entries found h b p next row off shows reset =
    let slice = h.cut.rest ++ OneBit b ∷ [] in
    let n = closed p next (at_bit (along h.cut.context h.cut.place [] h.cut.rest) h.cut.place (bits_in h.cut.rest) b) in
    let ends = ends_with h.cut.context h.cut.place h.cut.rest b p next row in
    let far : 256 ≤ (after h.cut.context h.cut.place slice p next).tec =
    subst (λ (c : ContextValue). 256 ≤ c.tec) (sym ends.whole) off in
    let Q : ContextValue → Type 0 =
    λ c. Move h.cut.context h.cut.place (slice ++ BusOff ∷ []) (p ∷ []) (with_off c) AtReset in
    let move : Move h.cut.context h.cut.place (slice ++ BusOff ∷ []) (p ∷ []) (with_off n) AtReset =
    subst Q ends.whole (off_after slice h.cut.rest b refl (stays_end h.cut.from)
    (slice_open b (piece_away h.cut.place row) (open_end h.cut.from)) ends.lawful far) in
    let R : List RecordEntry → Type 0 = λ l. Move h.cut.context h.cut.place l (p ∷ []) (with_off n) AtReset in
    let S : Count → Type 0 = λ k. From none_yet fresh AtReset (entries ++ OneBit b ∷ BusOff ∷ [])
    (found ++ tagged k (p ∷ [])) (with_off n) AtReset [] in
    record {
      cut = record {
        context = with_off n;
        place = AtReset;
        rest = [];
        from = subst S (off_counts entries b)
            (move_on (OneBit b ∷ BusOff ∷ []) (p ∷ []) h.cut.from
            (subst R (append_assoc h.cut.rest (OneBit b ∷ []) (BusOff ∷ [])) move) (omega arith));
      };
      shows = shows;
      at = off_rests new n reset;
    }
