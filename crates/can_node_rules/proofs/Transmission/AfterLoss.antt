-- A transmitter that loses arbitration goes on as receiver.
use Rattle.std.proofs.Common.{◌≡◌, ℕ, Some, List, [], ◌∷◌, ◌++◌, ap, ap₂, sym, subst, ◌∙◌, append_assoc}
use Rattle.std.proofs.lemmas.List.{append-nil}
use Rattle.can_levels.specs.declared.level.Level.{Level}
use Rattle.can_levels.specs.declared.level.Level.TheVariants.{Dominant, Recessive}
use Rattle.can_levels.specs.Line.{tail}
use Rattle.can_levels.specs.Places.{place_code}
use Rattle.can_levels.specs.Streaming.{IsOver}
use Rattle.can_levels.proofs.LineEnds.{over_part}
use Rattle.can_levels.proofs.Readables.{open_readable}
use Rattle.can_node_rules.specs.Bits.{Bit, recessive_bit, seen_of, driven_of}
use Rattle.can_node_rules.specs.Context.{ContextValue}
use Rattle.can_node_rules.specs.Frames.{Receives, IsWithin}
use Rattle.can_node_rules.specs.Frames.Transmits.{lost}
use Rattle.can_node_rules.specs.Pieces.{Place}
use Rattle.can_node_rules.specs.UnfinishedPieces.{IsReceiving, IsTransmitting, IsFramePlace, frame_bits}
use Rattle.can_node_rules.proofs.Bits.Seen.{acknowledges_none}
use Rattle.can_node_rules.proofs.Reception.Breaking.{right_nothing}
use Rattle.can_node_rules.proofs.Bits.FramePlaces.{row_own, frame_more, frame_seen}
use Rattle.can_node_rules.proofs.Transmission.Losing.{lost_inside, lost_open, open_within}
use Rattle.can_levels.proofs.NextOnce.{past_here}

-- a bit from its two levels
lost_bit : (x : Bit) → x.driven ≡ Recessive → x.seen ≡ Dominant → x ≡ recessive_bit Dominant
lost_bit x d s = let P : Level → Level → Bit = λ y z. record { driven = y; seen = z } in ap₂ P d s

-- from the bit on in which it loses arbitration
pub receives_on : (c now : ContextValue) (place : Place) (bits : List Bit) (b : Bit) (code : ℕ) (rest : List Level) →
    IsFramePlace place → (h : IsTransmitting c now place bits) →
    h.part ++ tail Recessive ≡ driven_of (frame_bits place bits) ++ b.driven ∷ rest → b.driven ≡ Recessive →
    b.seen ≡ Dominant →
    place_code h.request.frame.ext (seen_of (frame_bits place bits)) ≡ Some code → IsReceiving c place (bits ++ b ∷ [])
receives_on c now place bits b code rest site h next drives sees some =
    let before : List Bit = frame_bits place bits in
    let levels : List Level = seen_of before ++ Dominant ∷ [] in
    let all : List Bit = bits ++ b ∷ [] in
    let goes = lost_open c.self_test h.request.frame h.check h.part before code h.is_part h.well some in
    let inside = lost_inside h.request.frame.ext (seen_of before) code some in
    let driven : h.part ++ tail Recessive ≡ (driven_of before ++ Recessive ∷ []) ++ rest =
    next ∙ ap (λ x. driven_of before ++ x ∷ rest) drives
    ∙ sym (append_assoc (driven_of before) (Recessive ∷ []) rest) in
    let Within : List Level → Type 0 = λ l. IsWithin l in
    record {
      before = all;
      more = [];
      levels = levels;
      whole = sym (append-nil all);
      seen = frame_seen place bits b site ∙ ap (λ x. seen_of before ++ x ∷ []) sees ∙ sym (append-nil levels);
      row = λ more piece after receives.
          let split : frame_bits place (all ++ more) ≡ before ++ recessive_bit Dominant ∷ more =
          ap (λ l. frame_bits place l) (append_assoc bits (b ∷ []) more) ∙ frame_more place bits (b ∷ more) site
          ∙ ap (λ x. before ++ x ∷ more) (lost_bit b drives sees) in
          let speaks = subst (λ listen. Receives listen levels more piece after) h.speaks receives in
          row_own c place h.request (all ++ more) piece after site h.sent
          (lost
          (record {
            crc = h.check;
            part = h.part;
            is_part = h.is_part;
            before = before;
            more = more;
            whole = split;
            well = h.well;
            rest = rest;
            driven = driven;
            code = code;
            loses = some;
            goes_on = speaks;
          }));
      inside = inside;
      answers = acknowledges_none c.listen levels;
      right = right_nothing levels (open_readable levels goes);
      within = subst Within (sym (append-nil levels)) (open_within levels goes inside);
    }

-- its line isn't over there
pub lost_not_over : (c now : ContextValue) (place : Place) (bits : List Bit) (code : ℕ) (x : Level)
    (h : IsTransmitting c now place bits) → x ≡ Dominant →
    place_code h.request.frame.ext (seen_of (frame_bits place bits)) ≡ Some code →
    IsOver (seen_of (frame_bits place bits) ++ x ∷ []) → ⊥
lost_not_over c now place bits code x h sees some over =
    let l : List Level = seen_of (frame_bits place bits) in
    let P : Level → Type 0 = λ y. IsOver (l ++ y ∷ []) in
    let here : IsOver (l ++ Dominant ∷ []) = subst P sees over in
    let line = here.1.line in
    lost_inside h.request.frame.ext l code some
    (past_here line.part (tail here.1.ack) line.is_part (over_part (l ++ Dominant ∷ []) here))
