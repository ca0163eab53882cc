-- Where another node's frame begins for its receiver.
use Rattle.std.proofs.Common.{◌≡◌, None, List, [], ◌∷◌, ◌++◌, refl, sym, subst, ◌∙◌, arith}
use Rattle.std.proofs.lemmas.List.{append-nil}
use Rattle.can_frame.specs.Frame.{FrameValue}
use Rattle.can_levels.specs.declared.level.Level.{Level}
use Rattle.can_levels.specs.declared.level.Level.TheVariants.{Dominant}
use Rattle.can_levels.specs.Line.{StuffedPart}
use Rattle.can_levels.specs.Reading.{IsPastPart}
use Rattle.can_levels.specs.Streaming.{IsReadable}
use Rattle.can_levels.proofs.Going.{IsInside, part_begun}
use Rattle.can_levels.proofs.Ending.{inside_not_past}
use Rattle.can_levels.proofs.Readables.{part_readable}
use Rattle.can_node_rules.specs.Bits.{Bit, recessive_bit, seen_of}
use Rattle.can_node_rules.specs.Context.{ContextValue}
use Rattle.can_node_rules.specs.Pieces.{Place, Piece, sent_at}
use Rattle.can_node_rules.specs.Pieces.Place.{AtIdle, AfterSof}
use Rattle.can_node_rules.specs.Frames.{IsWithin, Receives}
use Rattle.can_node_rules.specs.Table.{Row}
use Rattle.can_node_rules.specs.Table.Row.{other, other_begun}
use Rattle.can_node_rules.specs.UnfinishedPieces.{IsReceiving, frame_bits}
use Rattle.can_node_rules.proofs.Bits.Seen.{acknowledges_none}
use Rattle.can_node_rules.proofs.Reception.Completing.{part_within}
use Rattle.can_node_rules.proofs.Reception.Breaking.{right_nothing}

-- a node that saw these levels of a frame, and is its receiver from there on
pub receiving_at : (c : ContextValue) (place : Place) (bits : List Bit) (levels : List Level) →
    seen_of (frame_bits place bits) ≡ levels →
    IsReadable levels → (IsPastPart levels → ⊥) → IsWithin levels →
    ((all : List Bit) (p : Piece) (next : Place) → Receives c.listen levels all p next →
    Row c place (bits ++ all) p next) → IsReceiving c place bits
receiving_at c place bits levels seen readable inside within row =
    let P : List Level → Type 0 = λ m. IsWithin m in
    record {
      before = bits;
      more = [];
      levels = levels;
      whole = sym (append-nil bits);
      seen = seen ∙ sym (append-nil levels);
      row = row;
      inside = inside;
      answers = acknowledges_none c.listen levels;
      right = right_nothing levels readable;
      within = subst P (sym (append-nil levels)) within;
    }

-- a front of a stuffed part is readable, and has a whole tail to come
pub front_good : {f : FrameValue} {b c : List Level} (l more : List Level) → StuffedPart f b c (l ++ more) →
    IsReadable l × IsWithin l
front_good l more part = (part_readable l more part, part_within l more part)

-- SOF alone
start_inside : IsInside (Dominant ∷ [])
start_inside = record {
  short = (omega arith, tt);
  begins = refl;
  fits = omega arith;
  goes_on = λ whole. absurd (omega (arith, whole));
}

start_good : IsReadable (Dominant ∷ []) × IsWithin (Dominant ∷ [])
start_good =
    let (f, b, c, later, part) = part_begun (Dominant ∷ []) start_inside.short start_inside.begins start_inside.fits in
    front_good (Dominant ∷ []) later part

-- another node starts a frame where the bus is idle
pub receives_from_idle : (c : ContextValue) → sent_at c AtIdle ≡ None →
    IsReceiving c AtIdle (recessive_bit Dominant ∷ [])
receives_from_idle c none =
    receiving_at c AtIdle (recessive_bit Dominant ∷ []) (Dominant ∷ []) refl start_good.0
    (inside_not_past (Dominant ∷ []) start_inside) start_good.1
    (λ all p next receives. other none receives)

-- and with the last bit of interframe space
pub receives_after_sof : (c : ContextValue) → sent_at c AfterSof ≡ None → IsReceiving c AfterSof []
receives_after_sof c none =
    receiving_at c AfterSof [] (Dominant ∷ []) refl start_good.0 (inside_not_past (Dominant ∷ []) start_inside)
    start_good.1
    (λ all p next receives. other_begun none receives)
