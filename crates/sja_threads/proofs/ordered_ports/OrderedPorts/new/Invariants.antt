use Rattle.std.proofs.Common.{◌≡◌, ◌≤◌, ◌+◌, length, drop, vec_len, vec_capacity}
use Rattle.std.specs.Vec.Iter.{into_iter_items, into_iter_len}
use Rattle.sja_threads.specs.Inside.Boards.{NoneTold}
use Rattle.sja_threads.proofs.ordered_ports.OrderedPorts.new.Given as goal

abbrev pub invariant-loop-list : goal.invariant-loop-list
invariant-loop-list g l = record {
  at : l.node + into_iter_len l.list-iterator ≡ length l.fn.lists.items;
  ports : vec_len l.ports ≡ l.node;
  told : vec_len l.told ≡ l.node;
  port_room : length l.fn.lists.items ≤ vec_capacity l.ports;
  told_room : length l.fn.lists.items ≤ vec_capacity l.told;
  rest : into_iter_items l.list-iterator ≡ drop l.node l.fn.lists.items;
  none : NoneTold l.told.items;
}
