use Rattle.std.proofs.Common.{◌≡◌, ◌≤◌, ◌-◌, ◌++◌, replicate}
use Rattle.sja_journal.proofs.bounded_history.BoundedHistory.push_many.Given as goal

abbrev pub invariant-loop-left : goal.invariant-loop-left
invariant-loop-left g l = record {
  few : l.left ≤ l.count;
  items : l.self.items ≡ l.initial.self.items ++ replicate (l.count - l.left) l.item;
  room : l.self.room ≡ l.initial.self.room;
}

abbrev pub decreases-loop-left : goal.decreases-loop-left
decreases-loop-left g l = l.left
