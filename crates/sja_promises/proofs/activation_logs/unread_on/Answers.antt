use Rattle.std.proofs.Common.{◌≡◌, ◌≤◌, ◌++◌, ◌∙◌, ℕ, List, length, drop, sym, ap, append-nil, arith}
use Rattle.std.proofs.Math.ListN.{drop_of_length-le}
use Rattle.sja_link.specs.declared.older_down.OlderDown.{OlderDown}
use Rattle.sja_link.specs.Deques.{left_on}
use Rattle.sja_journal.specs.Lists.{messages}
use Rattle.sja_promises.proofs.activation_logs.unread_on.Goals as goal

-- no item is left
all_read : (list held : List (List ℕ)) (left : List OlderDown) (a place : ℕ) → length left ≤ place →
    list ++ messages (left_on (drop place left) a) ≡ held ++ messages (left_on left a) →
    list ≡ held ++ messages (left_on left a)
all_read list held left a place past so_far =
    sym (append-nil list) ∙ ap (λ l. list ++ messages (left_on l a)) (sym (drop_of_length-le left past)) ∙ so_far

pub returns : goal.returns
returns c =
    all_read _ _ c.args.left_down.now c.args.activation c.loop-place.place
    (omega (arith, ap length c.items-left.ensures)) c.loop-place.invariant
