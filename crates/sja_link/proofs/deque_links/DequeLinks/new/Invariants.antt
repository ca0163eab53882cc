use Rattle.std.proofs.Common.{◌≡◌, ◌≤◌, replicate}
use Rattle.std.specs.VecDeque.{deque_capacity}
use Rattle.sja_link.specs.Deques.{nothing_lies}
use Rattle.sja_link.proofs.deque_links.DequeLinks.new.Given as goal

abbrev pub invariant-loop : goal.invariant-loop
invariant-loop l = record {
  items : l.others.items ≡ replicate l.counter nothing_lies;
  room : l.many ≤ deque_capacity l.others;
  many : l.counter ≤ l.many;
}
