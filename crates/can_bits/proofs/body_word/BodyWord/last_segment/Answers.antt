use Rattle.std.proofs.Common.{◌≡◌, ◌-◌, ◌∙◌, ap, length, arith}
use Rattle.can_levels.specs.Fields.{says_ext}
use Rattle.can_levels.specs.Segments.{segment_in, segments_of}
use Rattle.can_bits.specs.Inside.Gathering.{mark_of}
use Rattle.can_bits.proofs.Packing.Marks.{mark_segment}
use Rattle.can_bits.proofs.body_word.BodyWord.last_segment.Goals as goal

pub returns : goal.returns
returns c w g =
    let s = c.args.self.now in
    let last : c.saturating_sub.result ≡ length w - 1 = c.saturating_sub.ensures ∙ ap (λ n. n - 1) g.packs.place_is in
    c.segment_of.ensures ∙ ap (λ e. segment_in (segments_of e s.mark) c.saturating_sub.result) (c.ext.ensures w g.packs)
    ∙ ap (λ m. segment_in (segments_of (says_ext w) m) c.saturating_sub.result) g.mark
    ∙ ap (λ p. segment_in (segments_of (says_ext w) (mark_of w)) p) last ∙ mark_segment w (length w - 1) (omega arith)
