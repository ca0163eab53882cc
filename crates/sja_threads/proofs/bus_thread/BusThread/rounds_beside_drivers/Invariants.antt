use Rattle.std.proofs.Common.{◌≡◌, length}
use Rattle.sja_threads.specs.Inside.Boards.{AreClosed, AreTold, turns_in}
use Rattle.sja_threads.specs.Inside.Rounds.{GoesOn}
use Rattle.sja_threads.proofs.bus_thread.BusThread.rounds_beside_drivers.Given as goal

abbrev pub invariant-loop : goal.invariant-loop
invariant-loop g l = record {
  on : GoesOn l.plan l.initial.self l.self;
  ports : length l.board.told.items ≡ length l.initial.board.told.items;
  told : AreTold l.plan l.initial.self.bus.journals (turns_in l.initial.board.told.items) →
      AreTold l.plan l.self.bus.journals (turns_in l.board.told.items);
  closed : AreClosed (length l.plan.nodes) l.initial.self.spent (turns_in l.initial.board.told.items) →
      AreClosed (length l.plan.nodes) l.self.spent (turns_in l.board.told.items);
}
