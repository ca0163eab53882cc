use Rattle.std.proofs.Common.{◌++◌, ◌∷◌, [], Option, refl, sym, subst, ◌∙◌}
use Rattle.can_frame.specs.Frame.{FrameValue}
use Rattle.can_levels.specs.declared.shift_fault.ShiftFault.{ShiftFault}
use Rattle.can_levels.specs.Streaming.{ShowsFrame}
use Rattle.can_levels.specs.Judgements.{JudgesAt}
use Rattle.can_node_rules.specs.Bits.{Bit, seen_of}
use Rattle.can_node_rules.specs.UnfinishedPieces.{frame_bits}
use Rattle.can_node_rules.proofs.Reception.Completing.{lost_if}
use Rattle.can_node_rules.proofs.Reception.ReceiverBits.{kept_if, readable_if, receiving_readable}
use Rattle.can_node_rules.proofs.Reception.ReceiverBits.{lost_row, wrong_row, received_row, goes_on}
use Rattle.can_node.proofs.receive.receive.Goals as goal

pub returns-then-is_lost-clause-turn : goal.returns-then-is_lost-clause-turn
returns-then-is_lost-clause-turn c context place bits stands h answers =
    let x : Bit = record { driven = c.args.driven; seen = c.args.seen } in
    rw c.error.ensures (lost_row context place bits x c.next_segment-segment.result _ h answers
    (c.next_segment-segment.ensures _ stands (receiving_readable context place bits h)).1
    (lost_if c.args.driven c.args.seen (sym c.is_lost.ensures ∙ c.if-is_lost.true)))

pub returns-in-Some-clause-turn : goal.returns-in-Some-clause-turn
returns-in-Some-clause-turn c context place bits stands h answers =
    let x : Bit = record { driven = c.args.driven; seen = c.args.seen } in
    let l : _ = seen_of (frame_bits place bits) in
    let J : Option ShiftFault → Type 0 = λ o. JudgesAt l c.args.seen o in
    let broke = subst J c.in-Some.is (c.advance-2.ensures.judged l stands (receiving_readable context place bits h)) in
    rw (c.error-in-Some.ensures, c.cause_of.ensures) (wrong_row context place bits x c.in-Some.wrong h answers broke)

pub returns-in-Some-frame_or_kept-clause-turn : goal.returns-in-Some-frame_or_kept-clause-turn
returns-in-Some-frame_or_kept-clause-turn c context place bits stands h answers =
    let l : _ = seen_of (frame_bits place bits) in
    let x : Bit = record { driven = c.args.driven; seen = c.args.seen } in
    let kept = kept_if c.args.driven c.args.seen (sym c.is_lost.ensures ∙ c.if-is_lost.false) in
    let S : Option FrameValue → Type 0 = λ o. ShowsFrame (l ++ c.args.seen ∷ []) o in
    let on = readable_if l c.args.seen _ c.in-None.is
    (c.advance-2.ensures.judged l stands (receiving_readable context place bits h)) in
    received_row context place bits x c.in-Some-frame_or_kept.frame h answers kept on
    (subst S c.in-Some-frame_or_kept.is
    (c.frame_or_kept.ensures (l ++ c.args.seen ∷ []) (c.advance-2.ensures.stands l stands) on))

pub returns-in-None-frame_or_kept-clause-turn : goal.returns-in-None-frame_or_kept-clause-turn
returns-in-None-frame_or_kept-clause-turn c context place bits stands h answers =
    let x : Bit = record { driven = c.args.driven; seen = c.args.seen } in
    let l : _ = seen_of (frame_bits place bits) in
    let on = readable_if l c.args.seen _ c.in-None.is
    (c.advance-2.ensures.judged l stands (receiving_readable context place bits h)) in
    let S : Option FrameValue → Type 0 = λ o. ShowsFrame (l ++ c.args.seen ∷ []) o in
    let shown = c.frame_or_kept.ensures (l ++ c.args.seen ∷ []) (c.advance-2.ensures.stands l stands) on in
    let kept = kept_if c.args.driven c.args.seen (sym c.is_lost.ensures ∙ c.if-is_lost.false) in
    (refl, goes_on context place bits x h answers kept on (subst S c.in-None-frame_or_kept.is shown))
