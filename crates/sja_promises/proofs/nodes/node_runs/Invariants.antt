use Rattle.std.proofs.Common.{◌≡◌, ◌<◌, ◌≤◌, ℕ, vec_capacity, length, drop}
use Rattle.std.specs.Prelude.{slice_index_or}
use Rattle.std.specs.Vec.Iter.{into_iter_items}
use Rattle.sja_driver.specs.declared.logged_driver.LoggedDriver.{LoggedDriver}
use Rattle.sja_driver.specs.LoggedDrivers.{log_of}
use Rattle.sja_driver.specs.Logs.{KeepsLog}
use Rattle.sja_promises.specs.Finishing.{AreNodeEnds}
use Rattle.sja_promises.specs.LeftDown.{left_of}
use Rattle.sja_promises.proofs.nodes.node_runs.Given as goal

abbrev pub invariant-loop-log : goal.invariant-loop-log
invariant-loop-log l = record {
  room : length l.drivers ≤ vec_capacity l.runs;
  few : l.node ≤ length l.drivers;
  rest : into_iter_items l.log-iterator ≡ drop l.node l.fn.logs.items;
  kept : (k : ℕ) (d : LoggedDriver) → k < l.node → KeepsLog (log_of (slice_index_or l.drivers k d));
  each : AreNodeEnds l.fn.logs.items l.drivers (λ k a. left_of l.lists k a) l.node l.runs.items;
}
