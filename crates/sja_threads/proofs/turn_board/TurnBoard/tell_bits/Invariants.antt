use Rattle.std.proofs.Common.{◌≡◌, length}
use Rattle.sja_threads.specs.Inside.Boards.{FirstTold, SaysBits, turns_in}
use Rattle.sja_threads.proofs.turn_board.TurnBoard.tell_bits.Given as goal

abbrev pub invariant-loop-node : goal.invariant-loop-node
invariant-loop-node g l = record {
  many : length l.self.told.items ≡ length l.initial.self.told.items;
  first : FirstTold (SaysBits l.bits) l.node (turns_in l.initial.self.told.items) (turns_in l.self.told.items);
}
