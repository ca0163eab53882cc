-- What is left of a bus node at the end of a run.
use Rattle.std.specs.Prelude.{◌≡◌}
use Rattle.sja_bus.specs.declared.bus_node.BusNode.{BusNode}
use Rattle.sja_bus_rules.specs.declared.node_log.NodeLog.{NodeLog}
use Rattle.sja_bus_rules.specs.Lawful.{CountersAre}
use Rattle.sja_bus.specs.Inside.Following.{Follows}

-- its journal, and where its node follows the journal the error counters at its end
pub record IsLog (s : BusNode) (g : NodeLog) : Type 0 where
  pub journal : g.journal ≡ s.journal
  pub counters : Follows s.node s.journal.entries → CountersAre s.journal.entries g.txerr g.rxerr
