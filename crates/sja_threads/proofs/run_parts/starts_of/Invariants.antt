use Rattle.std.proofs.Common.{◌≡◌, ◌≤◌, ◌+◌, drop, length, map, take, vec_capacity}
use Rattle.std.specs.Vec.Iter.{into_iter_items, into_iter_len}
use Rattle.sja_threads.specs.Inside.Making.{AreMade, AreListed}
use Rattle.sja_threads.proofs.run_parts.starts_of.Given as goal

abbrev pub invariant-loop-gate : goal.invariant-loop-gate
invariant-loop-gate g l = record {
  all : l.node + into_iter_len l.gate-iterator ≡ length l.plan.nodes;
  count : length l.starts.items ≡ l.node;
  room : length l.plan.nodes ≤ vec_capacity l.starts;
  links : length l.buses.items ≡ l.node;
  made : AreMade l.plan l.node l.starts.items l.buses.items;
  many : length l.lists.items ≡ l.node;
  rest : into_iter_items l.gate-iterator ≡ drop l.node l.fn.gates.items;
  asked : map (λ s. s.gate) l.starts.items ≡ take l.node l.fn.gates.items;
  listed : AreListed l.node l.starts.items l.lists.items;
}
