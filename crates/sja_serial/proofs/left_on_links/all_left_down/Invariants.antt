use Rattle.std.proofs.Common.{◌≤◌, ◌<◌, ℕ, length, vec_capacity}
use Rattle.std.specs.Prelude.{slice_index_or}
use Rattle.sja_link.specs.Deques.{Deques, KeepsOlder}
use Rattle.sja_serial.proofs.WholeRun.Left.{IsLeftOf}
use Rattle.sja_serial.proofs.left_on_links.all_left_down.Given as goal

abbrev pub invariant-loop-of_node : goal.invariant-loop-of_node
invariant-loop-of_node l = record {
  room : length l.links ≤ vec_capacity l.lists;
  left : IsLeftOf l.links l.of_node-index l.lists.items;
  kept : (node : ℕ) (d : Deques) → node < l.of_node-index → KeepsOlder (slice_index_or l.links node d);
}
