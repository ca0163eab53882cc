use Rattle.std.proofs.Common.{ℕ, ◌<◌}
use Rattle.sja_plan.specs.Plan.{steps_at}
use Rattle.sja_bus_rules.specs.Wire.{journal_at}
use Rattle.sja_thread_promises.specs.Ordering.{HasBegun}
use Rattle.sja_threads.specs.Inside.Boards.{turns_at, turns_in}
use Rattle.sja_threads.proofs.bus_thread.all_begun.Given as goal

abbrev pub invariant-loop-node : goal.invariant-loop-node
invariant-loop-node g l = (node : ℕ) → node < l.node →
    HasBegun (steps_at l.plan node) (journal_at l.bus.journals node) (turns_at (turns_in l.board.told.items) node)
