-- A controller at its links.
use Rattle.std.specs.Prelude.{◌≡◌, ℕ}
use Rattle.sja_link.specs.BusLedgers.{link_of}
use Rattle.sja_bus.specs.declared.bus_node.BusNode.{BusNode}
use Rattle.sja_bus.specs.Inside.BusNodes.{IsReady}

-- a bus node is ready, and the end is that of its node's links
pub record HasEnd {E : Type 0} (node_of : E → ℕ) (s : BusNode) (end : E) : Type 0 where
  pub own : node_of end ≡ (link_of s.ledger).node
  pub ready : IsReady s

-- what a call keeps, also one that broke off: the end is the same one still, the bus node is of the same node, and its
-- journal has as many reserved entries
pub record KeepsEnd {E : Type 0} (same : E → E → Type 0) (old new : BusNode) (end after : E) : Type 0 where
  pub is_same : same end after
  pub node : (link_of new.ledger).node ≡ (link_of old.ledger).node
  pub room : new.journal.room ≡ old.journal.room
