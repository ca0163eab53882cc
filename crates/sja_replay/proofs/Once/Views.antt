-- By the cut of a record one view is shown.
use Rattle.std.proofs.Common.{◌≡◌, Option, Some, List, [], ◌∷◌, sym, ap, ◌∙◌, subst}
use Rattle.can_levels.specs.declared.level.Level.{Level}
use Rattle.can_levels.specs.declared.segment.Segment.{Segment}
use Rattle.can_node_rules.specs.Bits.{Bit, seen_of}
use Rattle.can_node_rules.specs.Context.{ContextValue, is_transmitter}
use Rattle.can_node_rules.specs.Pieces.{Place}
use Rattle.can_node_rules.specs.Pieces.Place.{AtReset, AtIntegration, AtIdle, AfterSof}
use Rattle.can_node_rules.specs.Pieces.Place.{AtLastEofBit, AtFlag, AtDelimiter, AtInterframeSpace}
use Rattle.can_node_rules.specs.NextBit.{open_bits}
use Rattle.can_node.specs.NextField.{IsInSegment, SegmentAt}
use Rattle.can_levels.proofs.NextOnce.{IsNext-unique}
use Rattle.sja_journal.specs.NodeWords.{NodeEntry, FinishedPiece, IsCut}
use Rattle.sja_replay.specs.declared.view.View.{View}
use Rattle.sja_replay.specs.Viewing.{IsView}
use Rattle.can_node_rules.proofs.OneCut.SameCuts.{same_now, same_place, same_bits, same_phase}

-- ---- the segment

in_once : (l : List Level) (s t : Option Segment) → IsInSegment l s → IsInSegment l t → s ≡ t
in_once l s t h k =
    h.some ∙ ap Some (IsNext-unique l h.segment k.segment h.stuff_bit k.stuff_bit h.next k.next).0 ∙ sym k.some

segment_once : (place : Place) (bits : List Bit) (s t : Option Segment) → SegmentAt place bits s →
    SegmentAt place bits t → s ≡ t
segment_once AtReset bits s t h k = h ∙ sym k
segment_once AtIntegration bits s t h k = h ∙ sym k
segment_once AtIdle [] s t h k = h ∙ sym k
segment_once AtIdle (b ∷ bits) s t h k = in_once (seen_of (b ∷ bits)) s t h k
segment_once AfterSof bits s t h k = in_once _ s t h k
segment_once AtLastEofBit bits s t h k = h ∙ sym k
segment_once AtFlag bits s t h k = h ∙ sym k
segment_once AtDelimiter bits s t h k = h ∙ sym k
segment_once AtInterframeSpace bits s t h k = h ∙ sym k

-- ---- all of it

same_view : (entries : List NodeEntry) (found others : List FinishedPiece) (h : IsCut entries found)
    (k : IsCut entries others) (v w : View) → IsView h v → IsView k w → v ≡ w
same_view entries found others h k v w a b =
    let now = same_now entries found others h k in
    let P : Place → Type 0 = λ s. SegmentAt s (open_bits h) v.segment in
    let Q : List Bit → Type 0 = λ l. SegmentAt k.place l v.segment in
    let phase = a.phase ∙ same_phase entries found others h k ∙ sym b.phase in
    let segment = segment_once k.place (open_bits k) v.segment w.segment
    (subst Q (same_bits entries found others h k) (subst P (same_place entries found others h k) a.segment))
    b.segment in
    let transmits = a.transmits ∙ ap (λ (c : ContextValue). is_transmitter c.role) now ∙ sym b.transmits in
    let tec = a.tec ∙ ap (λ (c : ContextValue). c.tec) now ∙ sym b.tec in
    let rec = a.rec ∙ ap (λ (c : ContextValue). c.rec) now ∙ sym b.rec in
    let off = a.off ∙ ap (λ (c : ContextValue). c.off) now ∙ sym b.off in
    let held = a.held ∙ ap (λ (c : ContextValue). c.held) now ∙ sym b.held in
    let flag = a.flag ∙ ap (λ (c : ContextValue). c.flag) now ∙ sym b.flag in
    λ i. record {
      phase = phase i;
      segment = segment i;
      transmits = transmits i;
      counters = record { tec = tec i; rec = rec i; off = off i };
      held = held i;
      flag = flag i;
    }

-- by cuts of two records that are one
pub view_once : (entries again : List NodeEntry) (found others : List FinishedPiece) (h : IsCut entries found)
    (k : IsCut again others) (v w : View) → entries ≡ again → IsView h v → IsView k w → v ≡ w
view_once entries again found others h k v w same a b =
    let P : List NodeEntry → Type 0 = λ l. (c : IsCut l others) → IsView c w → v ≡ w in
    subst P same (λ c d. same_view entries found others h c v w a d) k b
