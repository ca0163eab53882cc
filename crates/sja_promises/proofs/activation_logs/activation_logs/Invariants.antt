use Rattle.std.proofs.Common.{◌≡◌, ◌≤◌, vec_capacity}
use Rattle.sja_link.specs.Deques.{left_on}
use Rattle.sja_driver.specs.AnyDrivers.{opened_of}
use Rattle.sja_driver.specs.LoggedDrivers.{driver_of}
use Rattle.sja_promises.specs.Finishing.{AreActivations}
use Rattle.sja_promises.proofs.activation_logs.activation_logs.Given as goal

abbrev pub invariant-loop-ended : goal.invariant-loop-ended
invariant-loop-ended l = record {
  room : l.count ≤ vec_capacity l.logs;
  all : l.count ≡ opened_of (driver_of l.driver);
  each : AreActivations l.driver (λ a. left_on l.left_down a) l.ended l.logs.items;
}
