-- What the log of a run is made of (this project's own rule).
use Rattle.std.specs.Prelude.{◌≡◌, ◌+◌, ◌<◌, ◌++◌, ℕ, List, [], length, slice_index_or}
use Rattle.sja_journal.specs.declared.down.Down.{Down}
use Rattle.sja_journal.specs.Lists.{messages}
use Rattle.sja_bus_rules.specs.declared.node_log.NodeLog.{NodeLog}
use Rattle.sja_driver.specs.declared.logged_driver.LoggedDriver.{LoggedDriver}
use Rattle.sja_driver.specs.AnyDrivers.{held_of, opened_of}
use Rattle.sja_driver.specs.LoggedDrivers.{driver_of, log_of}
use Rattle.sja_driver.specs.Logs.{done_in, releases_in, left_in, released_of, leaves, KeepsLog}
use Rattle.sja_log.specs.Log.{ActivationValue, NodeValue}

-- all that the logs of drivers say can be read
abbrev pub KeepLogs : List LoggedDriver → Type 0
KeepLogs drivers = (k : ℕ) (d : LoggedDriver) → k < length drivers → KeepsLog (log_of (slice_index_or drivers k d))

-- the messages that a driver holds, or held at the end, in the activation after so many
abbrev pub held_after : LoggedDriver → ℕ → List (List ℕ)
held_after driver a = slice_index_or (leaves (left_in (log_of driver)) (held_of (driver_of driver))) a []

-- the log of that activation, on whose link this lies
abbrev pub activation_after : LoggedDriver → List Down → ℕ → ActivationValue
activation_after driver down a = record {
  released = released_of (releases_in (log_of driver)) (a + 1);
  unread = held_after driver a ++ messages down;
}

-- the logs of the first so many activations; this lies on the link of each
pub record AreActivations (driver : LoggedDriver) (down : ℕ → List Down) (count : ℕ) (logs : List ActivationValue)
    : Type 0 where
  pub count_is : length logs ≡ count
  pub each : (a : ℕ) (d : ActivationValue) → a < count →
      slice_index_or logs a d ≡ activation_after driver (down (a + 1)) a

-- the log of a node, on whose links this lies, by activation
pub record IsNodeEnd (log : NodeLog) (driver : LoggedDriver) (down : ℕ → List Down) (node : NodeValue)
    : Type 0 where
  pub journal : node.journal ≡ log.journal.entries
  pub txerr : node.txerr ≡ log.txerr
  pub rxerr : node.rxerr ≡ log.rxerr
  pub done : node.done ≡ done_in (log_of driver)
  pub activations : AreActivations driver down (opened_of (driver_of driver)) node.activations

-- the logs of the first so many nodes, on whose links this lies, by node and activation
pub record AreNodeEnds (logs : List NodeLog) (drivers : List LoggedDriver) (down : ℕ → ℕ → List Down) (count : ℕ)
    (nodes : List NodeValue) : Type 0 where
  pub count_is : length nodes ≡ count
  pub each : (k : ℕ) (g : NodeLog) (d : LoggedDriver) (n : NodeValue) → k < count →
      IsNodeEnd (slice_index_or logs k g) (slice_index_or drivers k d) (down k) (slice_index_or nodes k n)
