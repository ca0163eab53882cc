-- How a session begins (this project's own rule).
use Rattle.std.specs.Prelude.{◌≤◌, ◌<◌, ◌⊎◌, ◌^◌, ℕ, [], replicate}
use Rattle.sja_journal.specs.Sizes.{most_activations}
use Rattle.sja_bus_rules.specs.Buses.{BusValue, new_bus}
use Rattle.sja_driver.specs.StepRuns.{most_acts}
use Rattle.sja_plan.specs.Limits.{most_bits, most_steps, most_turns}
use Rattle.sja_session.specs.declared.session_fault.SessionFault.{SessionFault}
use Rattle.sja_session.specs.declared.session_fault.SessionFault.TheVariants.{Version, Bits, NodeCount, Memory}
use Rattle.sja_session.specs.declared.session_fault.SessionFault.TheVariants.{StepRoom, TurnRoom}
use Rattle.sja_session.specs.declared.session_room.SessionRoom.{SessionRoom}

-- room for as much as a plan of this version has at most
abbrev pub most_room : ℕ → SessionRoom
most_room version = record { steps = most_steps version; turns = most_turns version }

-- without an end a session is made for so many bits, and for so many steps of each node: more than can be run. It has
-- no room for turns
abbrev pub endless_bits : ℕ
endless_bits = 2 ^ 62

abbrev pub endless_room : SessionRoom
endless_room = record { steps = 2 ^ 56; turns = 0 }

-- the bus of a run to which nothing happened, by the rules of this version, 4 without an end: for so many bits, of so
-- many nodes, with links for as many activations of each as the version has, and room for so many steps of each driver
abbrev pub fresh_bus : ℕ → ℕ → ℕ → ℕ → BusValue
fresh_bus version bits nodes steps =
    new_bus [] bits nodes (most_activations version) (replicate nodes (most_acts version steps))

-- these are within the limits of a session, which are those of a plan of its version
abbrev pub IsVersion : ℕ → Type 0
IsVersion version = (1 ≤ version) × (version ≤ 3)

abbrev pub IsBitCount : ℕ → ℕ → Type 0
IsBitCount version bits = (1 ≤ bits) × (bits ≤ most_bits version)

abbrev pub IsNodeCount : ℕ → Type 0
IsNodeCount nodes = (1 ≤ nodes) × (nodes ≤ 8)

abbrev pub IsRoom : ℕ → SessionRoom → Type 0
IsRoom version room = (room.steps ≤ most_steps version) × (room.turns ≤ most_turns version)

-- a number isn't one from 1 to the most
abbrev pub IsOutside : ℕ → ℕ → Type 0
IsOutside most n = (n < 1) ⊎ (most < n)

-- version, bits and nodes are within the limits
abbrev pub MayBegin : ℕ → ℕ → ℕ → Type 0
MayBegin version bits nodes = IsVersion version × IsBitCount version bits × IsNodeCount nodes

-- why there is no session: the first of these that isn't within the limits, or that memory was refused
abbrev pub IsSessionFault : ℕ → ℕ → ℕ → SessionRoom → SessionFault → Type 0
IsSessionFault version bits nodes room Version = IsOutside 3 version
IsSessionFault version bits nodes room Bits = IsVersion version × IsOutside (most_bits version) bits
IsSessionFault version bits nodes room NodeCount = IsVersion version × IsBitCount version bits × IsOutside 8 nodes
IsSessionFault version bits nodes room StepRoom = MayBegin version bits nodes × (most_steps version < room.steps)
IsSessionFault version bits nodes room TurnRoom =
    MayBegin version bits nodes × (room.steps ≤ most_steps version) × (most_turns version < room.turns)
IsSessionFault version bits nodes room Memory = MayBegin version bits nodes × IsRoom version room

-- why there is no session without an end: so many nodes aren't within the limits, or memory was refused
abbrev pub IsEndlessFault : ℕ → SessionFault → Type 0
IsEndlessFault nodes NodeCount = IsOutside 8 nodes
IsEndlessFault nodes Memory = IsNodeCount nodes
IsEndlessFault nodes Version = ⊥
IsEndlessFault nodes Bits = ⊥
IsEndlessFault nodes StepRoom = ⊥
IsEndlessFault nodes TurnRoom = ⊥
