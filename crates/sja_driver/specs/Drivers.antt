-- What a driver shows in each of its states (this project's own rule).
use Rattle.std.specs.Prelude.{◌+◌, ℕ, Bool, None, List}
use Rattle.can_frame.specs.declared.buffer_view.BufferView.{BufferView}
use Rattle.sja_link.specs.declared.link_id.LinkId.{LinkId}
use Rattle.sja_link.specs.DriverLedgers.{link_of, held_by, knows_bus_off}
use Rattle.sja_driver.specs.declared.driver.Driver.{Driver}
use Rattle.sja_driver.specs.declared.reset.Reset.{Reset}
use Rattle.sja_driver.specs.declared.active.Active.{Active}

-- in reset: the node, and how many activations were started
abbrev pub node_in : Driver Reset → ℕ
node_in d = d.state.node

abbrev pub started_in : Driver Reset → ℕ
started_in d = d.state.activation

-- the link of the activation that would be started next
abbrev pub next_link : Driver Reset → LinkId
next_link d = record { node = node_in d; activation = started_in d + 1 }

-- in reset a driver sees no message
abbrev pub nothing_seen : BufferView
nothing_seen = record { first = None; count = 0 }

-- out of reset: the link of the present activation, the messages that were got and not released, and whether bus-off
-- was got
abbrev pub link_in : Driver Active → LinkId
link_in d = link_of d.state.ledger

abbrev pub activation_in : Driver Active → ℕ
activation_in d = (link_in d).activation

abbrev pub held_in : Driver Active → List (List ℕ)
held_in d = held_by d.state.ledger

abbrev pub off_in : Driver Active → Bool
off_in d = knows_bus_off d.state.ledger
