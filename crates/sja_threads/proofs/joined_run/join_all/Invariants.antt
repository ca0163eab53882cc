use Rattle.std.proofs.Common.{◌≡◌, ◌≤◌, ◌+◌, map, take, drop, vec_len, vec_capacity}
use Rattle.std.specs.Vec.Iter.{into_iter_items, into_iter_len}
use Rattle.lemmas.specs.Related.{EachRelated}
use Rattle.sja_thread_promises.specs.Asking.{IsLet}
use Rattle.sja_threads.specs.Inside.Promised.{IsPromised}
use Rattle.sja_threads.proofs.joined_run.join_all.Given as goal

abbrev pub invariant-loop-child : goal.invariant-loop-child
invariant-loop-child g l = record {
  room : vec_len l.workeds + into_iter_len l.child-iterator ≤ vec_capacity l.workeds;
  rest : into_iter_items l.child-iterator ≡ drop (vec_len l.workeds) l.fn.children.items;
  kept : EachRelated (IsPromised (IsLet g.G.Gate.QUITS g.G.Gate.answered))
      (map (λ child. child.promise) (take (vec_len l.workeds) l.fn.children.items)) l.workeds.items;
}
