use Rattle.std.proofs.Common.{◌≡◌, length}
use Rattle.sja_threads.specs.Inside.Boards.{turns_in}
use Rattle.sja_threads.specs.Inside.EndsInOrder.{AreInOrder}
use Rattle.sja_threads.proofs.comparing.compare_all.Given as goal

abbrev pub invariant-loop-node : goal.invariant-loop-node
invariant-loop-node g l = record {
  many : length l.board.told.items ≡ length l.initial.board.told.items;
  told : turns_in l.board.told.items ≡ turns_in l.initial.board.told.items;
  workeds : l.workeds.items ≡ l.initial.workeds.items;
  order : AreInOrder g.N.Order.version l.node (turns_in l.initial.board.told.items) l.initial.workeds.items;
}
