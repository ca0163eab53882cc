use Rattle.std.proofs.Common.{◌≡◌, ◌-◌, length, not}
use Rattle.std.specs.List.{list_any, range_with_len}
use Rattle.std.specs.Str.{bytes_eq}
use Rattle.sja_sweep.specs.Messages.{message_at, is_reordered}
use Rattle.sja_sweep.proofs.messages.is_reordered.Given as goal

-- another one stands in none of the places so far
abbrev pub invariant-loop-place : goal.invariant-loop-place
invariant-loop-place l =
    list_any (λ i. not (bytes_eq (message_at l.without i) (message_at l.now i)))
    (range_with_len l.place (length l.now - l.place))
    ≡ is_reordered l.without l.now
