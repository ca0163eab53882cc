use Rattle.std.proofs.Common.{◌≡◌, ◌≤◌, ◌++◌, length, take, drop, vec_capacity}
use Rattle.sja_link.specs.Deques.{left_on}
use Rattle.sja_journal.specs.Lists.{messages}
use Rattle.sja_promises.proofs.activation_logs.unread_on.Given as goal

abbrev pub invariant-loop-message : goal.invariant-loop-message
invariant-loop-message l = record {
  items : l.list.items ≡ take l.message-index l.held;
  room : length l.held ≤ vec_capacity l.list;
}

-- what was gathered, and the items that are left, are the whole
abbrev pub invariant-loop-place : goal.invariant-loop-place
invariant-loop-place l = l.list.items ++ messages (left_on (drop l.place l.left_down) l.activation)
    ≡ l.held ++ messages (left_on l.left_down l.activation)
