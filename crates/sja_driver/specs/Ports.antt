-- What a driver's calls do at its port (SJA1000 data sheet, 6.4.3, reset mode, and 6.4.4, command register).
use Rattle.std.specs.Prelude.{Option, Some, None, Result, Ok, Err, List, [], ◌∷◌, if◌then◌else◌}
use Rattle.can_node_rules.specs.declared.request.Request.{Request}
use Rattle.sja_journal.specs.declared.up.Up.{Up}
use Rattle.sja_journal.specs.declared.up.Up.TheVariants.{Send}
use Rattle.sja_regs.specs.declared.command.Command.{Command}
use Rattle.sja_regs.specs.declared.reg_fault.RegFault.{RegFault}
use Rattle.sja_regs.specs.declared.registers.Registers.{Registers}
use Rattle.sja_regs.specs.Registers.{after_leaving_reset}
use Rattle.sja_regs.specs.Commands.{request_of}
use Rattle.sja_driver.specs.declared.command_fault.CommandFault.{CommandFault}
use Rattle.sja_driver.specs.declared.command_fault.CommandFault.TheVariants.{Reg, Busy}

-- a start leaves reset mode
abbrev pub after_start : Registers → Registers
after_start p = if p.mode.rm then after_leaving_reset p else p

-- the request, as an item for the bus
abbrev pub send_of : Option Request → List Up
send_of None = []
send_of (Some request) = Send request ∷ []

-- what a command gives to the bus: the request that it makes of the transmit buffer, if it makes one
abbrev pub sent_by : Registers → Command → List Up
sent_by p c = send_of (request_of p c)

-- the port's refusal in the answer of a command
abbrev pub register_fault : {A : Type 0} → Result A CommandFault → Option RegFault
register_fault (Ok x) = None
register_fault (Err (Reg fault)) = Some fault
register_fault (Err Busy) = None
