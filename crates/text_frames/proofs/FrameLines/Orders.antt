-- Lines in order.
use Rattle.std.proofs.Common.{◌≡◌, ◌<◌, ◌+◌, ℕ, zero, suc, List, [], ◌∷◌, length, slice_index_or, refl, ap₂, ◌∙◌, arith}
use Rattle.std.specs.List.Sorted.{IsSorted, IsSortedByKey}
use Rattle.std.specs.Ordering.{is_lt, nat_cmp, ordering_then}
use Rattle.std.proofs.lemmas.List.{length-map}
use Rattle.text_frames.specs.declared.started_frame.StartedFrame.{StartedFrame}
use Rattle.text_frames.specs.FrameStories.{NodeStory, order, value_of, values_of}

get_value : (lines : List StartedFrame) (k : ℕ) (d : NodeStory) (e : StartedFrame) → k < length lines →
    slice_index_or (values_of lines) k d ≡ value_of (slice_index_or lines k e)
get_value [] k d e less = absurd (omega (arith, less))
get_value (l ∷ lines) zero d e less = refl
get_value (l ∷ lines) (suc k) d e less = get_value lines k d e (omega (arith, less))

-- lines sorted by SOF and node
pub sorted_values : (lines : List StartedFrame) →
    IsSortedByKey {K = ℕ × ℕ} (λ (l : StartedFrame). (l.sof, l.node))
    (λ x y. ordering_then (nat_cmp x.0 y.0) (nat_cmp x.1 y.1)) lines →
    IsSorted order (values_of lines)
sorted_values [] sorted = λ k d low high. absurd (omega (arith, high))
sorted_values (l ∷ lines) sorted =
    λ k d low high.
    (let all = l ∷ lines in
    let long = length-map all value_of in
    let few : k + 1 < length all = omega (arith, high, long) in
    let less : k < length all = omega (arith, few) in
    ap₂ (λ a b. is_lt (order a b)) (get_value all (k + 1) d l few) (get_value all k d l less)
    ∙ sorted k l low few)
