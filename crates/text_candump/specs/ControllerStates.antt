-- The state of a controller that isn't bus-off, as the driver of the SJA1000 has it (Linux, enum can_state of
-- include/uapi/linux/can/netlink.h, and drivers/net/can/sja1000/sja1000.c).
use Rattle.std.specs.Prelude.{◌||◌, ℕ, Bool, if◌then◌else◌, nat_le, Option, Some, None}
use Rattle.can_node_rules.specs.declared.counters.Counters.{Counters}
use Rattle.text_candump.specs.declared.controller_state.ControllerState.{ControllerState}
use Rattle.text_candump.specs.declared.controller_state.ControllerState.TheVariants.{Active, Warning, Passive}

-- one of the error counters is at a limit
abbrev pub reaches : ℕ → Counters → Bool
reaches limit k = nat_le limit k.tec || nat_le limit k.rec

-- error passive from 128 on (Bosch CAN 2.0 part A section 7, rule 9), and at the error warning limit from 96 on
-- (SJA1000 data sheet, 6.4.10)
abbrev pub state_by : Counters → ControllerState
state_by k = if reaches 128 k then Passive else (if reaches 96 k then Warning else Active)

-- the state after another one, where it isn't the same. The controller tells it by EI or EPI (6.4.6)
abbrev pub new_state : ControllerState → ControllerState → Option ControllerState
new_state Active Active = None
new_state Active Warning = Some Warning
new_state Active Passive = Some Passive
new_state Warning Active = Some Active
new_state Warning Warning = None
new_state Warning Passive = Some Passive
new_state Passive Active = Some Active
new_state Passive Warning = Some Warning
new_state Passive Passive = None
