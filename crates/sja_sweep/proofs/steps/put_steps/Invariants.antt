use Rattle.std.proofs.Common.{◌≡◌, ◌++◌, string_bytes}
use Rattle.std.specs.List.{range_with_len}
use Rattle.lemmas.specs.Gathering.{gathered}
use Rattle.std.specs.Prelude.{slice_get}
use Rattle.sja_sweep.specs.Steps.{step_item}
use Rattle.sja_sweep.proofs.steps.put_steps.Given as goal

-- what was written of those so far
abbrev pub invariant-loop-place : goal.invariant-loop-place
invariant-loop-place l =
    string_bytes l.text ≡ string_bytes l.fn.text
    ++ gathered (λ i. step_item (slice_get l.script i) l.node i (slice_get l.without i) (slice_get l.now i))
    (range_with_len 0 l.place)
