-- The calls that change a port's registers, in order, and what each leaves by its contract (this project's own rule).
use Rattle.std.specs.Prelude.{ℕ, true, if◌then◌else◌, Option, Some, None, List, [], ◌∷◌}
use Rattle.sja_regs.specs.declared.bus_turn.BusTurn.{BusTurn}
use Rattle.sja_regs.specs.declared.command.Command.{Command}
use Rattle.sja_regs.specs.declared.register.Register.{Register}
use Rattle.sja_regs.specs.declared.reg_fault.RegFault.{RegFault}
use Rattle.sja_regs.specs.declared.registers.Registers.{Registers}
use Rattle.sja_regs.specs.Registers.{after_leaving_reset, after_entering_reset}
use Rattle.sja_regs.specs.Refusals.{first_fault}
use Rattle.sja_regs.specs.Reading.{after_reading}
use Rattle.sja_regs.specs.Writing.{write_faults, after_writing, load_faults, after_loading}
use Rattle.sja_regs.specs.Commands.{command_faults, after_command}
use Rattle.sja_regs.specs.Turns.{after_turn}

-- a call, by what it is of: a turn of the bus, a register, a message, a command, what the driver has set
pub data Call : Type 0 where
  Turn : BusTurn → Call
  Read : Register → Call
  Write : Register → ℕ → Call
  Load : List ℕ → Call
  Give : Command → Call
  LeaveReset : Call
  EnterReset : Call
  Close : Call
  Finish : Call

-- the registers after a call, or before it where it was refused
abbrev pub unless_refused : Option RegFault → Registers → Registers → Registers
unless_refused None before after = after
unless_refused (Some fault) before after = before

-- what a call leaves
abbrev pub after_call : Registers → Call → Registers
after_call p (Turn turn) = after_turn p turn
after_call p (Read register) = after_reading p register
after_call p (Write register value) =
    unless_refused (first_fault (write_faults p register value)) p (after_writing p register value)
after_call p (Load m) = unless_refused (first_fault (load_faults p)) p (after_loading p m)
after_call p (Give c) = unless_refused (first_fault (command_faults p c)) p (after_command p c)
after_call p LeaveReset = if p.mode.rm then after_leaving_reset p else p
after_call p EnterReset = after_entering_reset p
after_call p Close = record p { closed = true }
after_call p Finish = record p { ended = true }

-- what several calls leave, the oldest first
abbrev pub after_calls : Registers → List Call → Registers
after_calls p [] = p
after_calls p (call ∷ calls) = after_calls (after_call p call) calls
