use Rattle.std.proofs.Common.{◌≡◌, ◌++◌, string_bytes, cond, []}
use Rattle.std.specs.List.{range_with_len}
use Rattle.lemmas.specs.Gathering.{gathered}
use Rattle.sja_sweep.specs.Messages.{message_at, message_item, is_more}
use Rattle.sja_sweep.proofs.message_changes.put_more.Given as goal

-- what was written of those so far
abbrev pub invariant-loop-place : goal.invariant-loop-place
invariant-loop-place l =
    string_bytes l.text ≡ string_bytes l.fn.text
    ++ gathered (λ i. cond (is_more l.list l.other i)
    (message_item l.of l.word (message_at l.list i)) []) (range_with_len 0 l.place)
