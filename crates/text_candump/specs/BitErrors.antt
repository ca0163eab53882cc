-- The error frame that one bit brings to the driver of a node, if it brings one (this project's own rule: the driver
-- has enabled all interrupts and serves each at once, after the bit that raised it, so each capture is read before the
-- next one comes).
use Rattle.std.specs.Prelude.{◌&&◌, not, Bool, true, false, if◌then◌else◌, Option, Some, None}
use Rattle.can_levels.specs.declared.segment.Segment.{Segment}
use Rattle.can_node_rules.specs.declared.bit_events.BitEvents.{BitEvents}
use Rattle.can_node_rules.specs.declared.cause.Cause.{Cause}
use Rattle.can_node_rules.specs.declared.counters.Counters.{Counters}
use Rattle.sja_replay.specs.declared.reception.Reception.{Reception}
use Rattle.sja_replay.specs.declared.reception.Reception.TheVariants.{Stored, Overrun, Stopped}
use Rattle.sja_replay.specs.declared.bit_event.BitEvent.{BitEvent}
use Rattle.text_candump.specs.ControllerStates.{state_by, new_state}
use Rattle.text_candump.specs.ErrorFrames.{tells}
use Rattle.text_candump.specs.declared.bus_error.BusError.{BusError}
use Rattle.text_candump.specs.declared.controller_state.ControllerState.{ControllerState}
use Rattle.text_candump.specs.declared.error_frame.ErrorFrame.{ErrorFrame}
use Rattle.text_candump.specs.declared.error_frame.ErrorFrame.TheVariants.{Told, BusOff, Restarted}
use Rattle.text_candump.specs.declared.interrupt.Interrupt.{Interrupt}

-- a message was longer than the bytes that were free, and is lost (SJA1000 data sheet, 6.4.14)
abbrev pub is_overrun : Option Reception → Bool
is_overrun None = false
is_overrun (Some Stored) = false
is_overrun (Some (Overrun length free)) = true
is_overrun (Some Stopped) = false

-- a fault, with the direction that the error code capture has (6.4.9)
abbrev pub bus_error_of : Option (Cause × Segment) → Bool → Option BusError
bus_error_of None receiving = None
bus_error_of (Some fault) receiving =
    Some (record { cause = fault.0; segment = fault.1; receiving = receiving })

-- what came with the bit, with a message overrun or not and with a new state or none, and the counters after it
abbrev pub interrupt_by : BitEvents → Bool → Option ControllerState → Counters → Interrupt
interrupt_by events overrun change after =
    record {
      lost = events.lost;
      overrun = overrun;
      bus_error = bus_error_of events.fault events.receiving;
      change = change;
      counters = after;
    }

abbrev pub told_error : Interrupt → Option ErrorFrame
told_error i = if tells i then Some (Told i) else None

-- with bus-off the controller enters reset mode, which leaves the error warning interrupt alone (SJA1000 data sheet,
-- 6.4.2 and 6.4.6): so the frame tells of nothing else. The way back is told by Linux's CAN core (can_restart)
abbrev pub bit_error_by : BitEvents → Bool → Option ControllerState → Counters → Option ErrorFrame
bit_error_by events overrun change after =
    if events.went_off then Some BusOff
    else (if events.recovered then Some Restarted else told_error (interrupt_by events overrun change after))

-- the state of the controller by the counters before the bit and after it
abbrev pub change_in : BitEvent → Option ControllerState
change_in h = new_state (state_by h.before.counters) (state_by h.after.counters)

abbrev pub bit_error : BitEvent → Option ErrorFrame
bit_error h = bit_error_by h.events (is_overrun h.reception) (change_in h) h.after.counters

-- between two bits the driver ended the bus-off that the one before left: it wrote TXERR in reset mode, and started the
-- controller (SJA1000 data sheet, 6.4.12). So Linux restarts it (sja1000_start), and its CAN core tells that first
-- (can_restart of drivers/net/can/dev/dev.c)
abbrev pub is_restart : Counters → Counters → Bool
is_restart left before = left.off && not before.off

abbrev pub restart_error : Counters → Counters → Option ErrorFrame
restart_error left before = if is_restart left before then Some Restarted else None
