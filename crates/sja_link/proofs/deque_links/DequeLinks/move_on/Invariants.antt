use Rattle.std.proofs.Common.{◌≡◌, ◌+◌, ◌≤◌, ◌++◌, length}
use Rattle.sja_link.specs.Deques.{on_link}
use Rattle.sja_link.proofs.deque_links.DequeLinks.move_on.Given as goal

abbrev pub invariant-loop-item : goal.invariant-loop-item
invariant-loop-item l = record {
  left : l.self-inside.older.items ++ on_link l.fn.self.first l.link.down
      ≡ l.fn.self.older ++ on_link l.fn.self.first l.initial.link.down;
  few : length l.self-inside.older.items + length l.link.down ≤ length l.fn.self.older + 22;
  room : l.self-inside.older.room ≡ l.initial.self-inside.older.room;
  up : l.link.up ≡ l.initial.link.up;
  others : l.self-inside.others ≡ l.initial.self-inside.others;
  here : l.self-inside.here ≡ l.initial.self-inside.here;
  first : l.self-inside.first ≡ l.fn.self.first;
  node : l.self-inside.node ≡ l.fn.self.node;
  starts : l.self-inside.starts ≡ l.fn.self.starts;
}

abbrev pub decreases-loop-item : goal.decreases-loop-item
decreases-loop-item l = length l.link.down
