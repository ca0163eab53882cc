-- A driver in either state (this project's own rule).
use Rattle.std.specs.Prelude.{◌≡◌, ◌+◌, ℕ, Bool, true, false, List, []}
use Rattle.can_frame.specs.declared.buffer_view.BufferView.{BufferView}
use Rattle.sja_link.specs.Showing.{seen_of}
use Rattle.sja_driver.specs.declared.any_driver.AnyDriver.{AnyDriver}
use Rattle.sja_driver.specs.declared.any_driver.AnyDriver.TheVariants.{InReset, InActive}
use Rattle.sja_driver.specs.Drivers.{node_in, started_in, link_in, held_in, off_in, nothing_seen}

-- it is out of reset
abbrev pub is_out : AnyDriver → Bool
is_out (InReset d) = false
is_out (InActive d) = true

-- how many activations it opened
abbrev pub opened_of : AnyDriver → ℕ
opened_of (InReset d) = started_in d
opened_of (InActive d) = (link_in d).activation

-- the messages got and not released in the present activation, and whether bus-off was got in it
abbrev pub held_of : AnyDriver → List (List ℕ)
held_of (InReset d) = []
held_of (InActive d) = held_in d

abbrev pub off_of : AnyDriver → Bool
off_of (InReset d) = false
off_of (InActive d) = off_in d

-- what a read of the registers sees
abbrev pub seen_by : AnyDriver → BufferView
seen_by (InReset d) = nothing_seen
seen_by (InActive d) = seen_of (off_in d) (held_in d)

-- whose driver it is, and the activation whose link it uses: in reset the one that would be started next
abbrev pub whose : AnyDriver → ℕ
whose (InReset d) = node_in d
whose (InActive d) = (link_in d).node

abbrev pub link_used : AnyDriver → ℕ
link_used (InReset d) = started_in d + 1
link_used (InActive d) = (link_in d).activation

-- it is the driver of this node, of whose activations so many have ended
abbrev pub IsDriverOf : ℕ → ℕ → AnyDriver → Type 0
IsDriverOf node ended (InReset d) = (node_in d ≡ node) × (started_in d ≡ ended)
IsDriverOf node ended (InActive d) = link_in d ≡ record { node = node; activation = ended + 1 }
