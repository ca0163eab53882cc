-- What the bus's ledger shows (this project's own rule).
use Rattle.std.specs.Prelude.{ℕ}
use Rattle.sja_link.specs.declared.link_id.LinkId.{LinkId}
use Rattle.sja_link.specs.declared.bus_ledger.BusLedger.{BusLedger}

-- the link that it is of
abbrev pub link_of : BusLedger → LinkId
link_of ledger = ledger.id

-- the activation whose link that is
abbrev pub activation_of : BusLedger → ℕ
activation_of ledger = ledger.id.activation

-- the bytes that are free
abbrev pub free_in : BusLedger → ℕ
free_in ledger = ledger.free
