-- What the driver's ledger shows (this project's own rule).
use Rattle.std.specs.Prelude.{ℕ, Bool, List}
use Rattle.sja_link.specs.declared.link_id.LinkId.{LinkId}
use Rattle.sja_link.specs.declared.driver_ledger.DriverLedger.{DriverLedger}

-- the link that it is of
abbrev pub link_of : DriverLedger → LinkId
link_of ledger = ledger.id

-- the activation whose link that is
abbrev pub activation_of : DriverLedger → ℕ
activation_of ledger = ledger.id.activation

-- the messages that were got and not released, in order
abbrev pub held_by : DriverLedger → List (List ℕ)
held_by ledger = ledger.held.items

-- bus-off was got
abbrev pub knows_bus_off : DriverLedger → Bool
knows_bus_off ledger = ledger.off
