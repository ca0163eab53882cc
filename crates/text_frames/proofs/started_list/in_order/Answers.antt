use Rattle.std.proofs.Common.{rules}
use Rattle.std.proofs.lemmas.List.Sorted.{IsPermutation-map, answers_always}
use Rattle.text_frames.specs.declared.started_frame.StartedFrame.{StartedFrame}
use Rattle.text_frames.specs.FrameStories.{value_of}
use Rattle.text_frames.proofs.FrameLines.Orders.{sorted_values}
use Rattle.text_frames.proofs.started_list.in_order.Goals as goal

pub returns-clause-same : goal.returns-clause-same
returns-clause-same c = IsPermutation-map value_of _ _ c.in_ok-sort_by_key.ensures.permutation

pub returns-clause-ordered : goal.returns-clause-ordered
returns-clause-ordered c =
    sorted_values _
    (c.in_ok-sort_by_key.ensures.sorted (λ (l : StartedFrame). (l.sof, l.node))
    (answers_always _ _ _ (λ f a r g h. search rules)))
