-- Which runs have a log (this project's own rule).
use Rattle.std.specs.Prelude.{◌+◌, ◌<◌, ◌≤◌, ◌^◌, ℕ, length, slice_index_or}
use Rattle.sja_bus_rules.specs.WholeRecords.{KeepsRecord}
use Rattle.sja_promises.specs.Finishing.{KeepLogs}
use Rattle.sja_promises.specs.LeftDown.{KeepOlder}
use Rattle.sja_serial.specs.Serial.{Setup, SerialValue}

-- a run keeps all that happened in it: its bits are as few as a log counts, in 32 bits; and each of its lists was made
-- for no more than it keeps: the journals of its bus, the logs of its drivers, and what was left on its links
pub record KeepsRun (r : SerialValue) : Type 0 where
  pub bits : r.bits < 2 ^ 32
  pub journals : KeepsRecord (r.bus.run + r.bus.left) r.bus.steps (length r.bus.journals)
  pub logs : KeepLogs r.drivers
  pub links : KeepOlder r.links

-- a run is made for no more bits than a plan may have, and of each driver for no more acts than as many steps as 32
-- bits count are, three each at most
pub record IsKept (setup : Setup) : Type 0 where
  pub bits : setup.bits ≤ 2000000
  pub steps : (node : ℕ) → node < setup.nodes → slice_index_or setup.steps node 0 ≤ 12884901885
