use Rattle.std.proofs.Common.{◌∙◌, ap, length, arith}
use Rattle.can_levels.specs.Fields.{says_ext}
use Rattle.can_levels.specs.Segments.{segment_in, segments_of}
use Rattle.can_bits.specs.Inside.Gathering.{mark_of}
use Rattle.can_bits.proofs.Packing.Marks.{mark_segment}
use Rattle.can_bits.proofs.body_word.BodyWord.next_segment.Goals as goal

pub returns : goal.returns
returns c w g =
    let s = c.args.self.now in
    c.segment_of.ensures ∙ ap (λ e. segment_in (segments_of e s.mark) s.place) (c.ext.ensures w g.packs)
    ∙ ap (λ m. segment_in (segments_of (says_ext w) m) s.place) g.mark
    ∙ ap (λ p. segment_in (segments_of (says_ext w) (mark_of w)) p) g.packs.place_is
    ∙ mark_segment w (length w) (omega arith)
