use Rattle.std.proofs.Common.{◌≡◌, [], map, replicate, vec_len, vec_capacity}
use Rattle.sja_session.proofs.lists.empty_lists.Given as goal

-- so many lists were made, and there is room for all
abbrev pub invariant-loop : goal.invariant-loop
invariant-loop l = record {
  count : vec_len l.lists ≡ l.counter;
  room : vec_capacity l.lists ≡ l.nodes;
  made : map (λ list. list.items) l.lists.items ≡ replicate l.counter [];
  places : map (λ list. list.room) l.lists.items ≡ replicate l.counter l.room;
}
