use Rattle.std.proofs.Common.{◌≡◌, ◌≤◌, ◌+◌, length, map, take, drop, vec_len, vec_capacity}
use Rattle.std.specs.Prelude.{All}
use Rattle.std.specs.Vec.Iter.{into_iter_items, into_iter_len}
use Rattle.lemmas.specs.Related.{EachRelated}
use Rattle.sja_threads.specs.Inside.Promised.{IsFor}
use Rattle.sja_threads.specs.Inside.Started.{IsThreadStart, AreOrdered}
use Rattle.sja_threads.proofs.thread_start.start_all.Given as goal

abbrev pub invariant-loop-start : goal.invariant-loop-start
invariant-loop-start g l = record {
  at : l.next + into_iter_len l.start-iterator ≡ length l.ports;
  count : vec_len l.children ≡ l.next;
  room : length l.ports ≤ vec_capacity l.children;
  rest : into_iter_items l.start-iterator ≡ drop l.next l.fn.starts.items;
  starts : All (IsThreadStart l.plan) (into_iter_items l.start-iterator);
  order : AreOrdered g.N.Order.version g.N.Order.acts l.plan.version (into_iter_items l.start-iterator);
  started : EachRelated (IsFor l.plan) (take l.next l.fn.starts.items) (map (λ child. child.promise) l.children.items);
}
