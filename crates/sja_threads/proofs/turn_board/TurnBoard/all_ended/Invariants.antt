use Rattle.std.proofs.Common.{◌≡◌, true}
use Rattle.sja_threads.specs.Inside.Boards.{AllEnded, turns_in}
use Rattle.sja_threads.proofs.turn_board.TurnBoard.all_ended.Given as goal

abbrev pub invariant-loop-node : goal.invariant-loop-node
invariant-loop-node g l = AllEnded l.node (turns_in l.self.told.items)
