-- The command register CMR (SJA1000 data sheet, 6.4.4).
use Rattle.std.specs.Prelude.{◌||◌, ◌&&◌, not, ℕ, Bool, if◌then◌else◌, Option, Some, None, List, [], ◌∷◌}
use Rattle.can_frame.specs.Buffer.{frame_in}
use Rattle.can_node_rules.specs.declared.request.Request.{Request}
use Rattle.sja_regs.specs.declared.command.Command.{Command}
use Rattle.sja_regs.specs.declared.reg_fault.RegFault.{RegFault}
use Rattle.sja_regs.specs.declared.reg_fault.RegFault.TheVariants.{ActiveOnly, UseTyped}
use Rattle.sja_regs.specs.declared.reg_fault.RegFault.TheVariants.{NotInVersion, ListenOnly, Locked}
use Rattle.sja_regs.specs.declared.registers.Registers.{Registers}
use Rattle.sja_regs.specs.Bits.{is_set}
use Rattle.sja_regs.specs.Writing.{is_first_version}

-- TR bit 0, AT bit 1, RRB bit 2, CDO bit 3, SRR bit 4; bits 5 to 7 are ignored (this project's own rule)
abbrev pub command_of : ℕ → Command
command_of value =
    record {
      tr = is_set value 0;
      at = is_set value 1;
      rrb = is_set value 2;
      cdo = is_set value 3;
      srr = is_set value 4;
    }

-- it requests a transmission
abbrev pub requests : Command → Bool
requests c = c.tr || c.srr

-- why a command isn't done, in this order (this project's own rule); a message is released by a call of its own
abbrev pub command_faults : Registers → Command → List (Bool × RegFault)
command_faults p c =
    (p.mode.rm, ActiveOnly)
    ∷ (c.rrb, UseTyped)
    ∷ (c.srr && is_first_version p, NotInVersion)
    ∷ (requests c && p.mode.lom, ListenOnly)
    ∷ (requests c && not p.tbs, Locked)
    ∷ []

-- the request that it makes of the transmit buffer: with AT it is tried once, and TR with SRR ignores SRR
abbrev pub request_of : Registers → Command → Option Request
request_of p c =
    if requests c
    then Some (record { frame = frame_in p.buffer; single_shot = c.at; self_receive = not c.tr })
    else None

-- what it leaves: CDO makes DOS 0; a request makes TBS and TCS 0; AT without a request stands as an abort while a
-- request is under way
abbrev pub after_command : Registers → Command → Registers
after_command p c =
    record p {
      dos = p.dos && not c.cdo;
      tbs = p.tbs && not (requests c);
      tcs = p.tcs && not (requests c);
      abort = p.abort || c.at && not (requests c) && not p.tbs;
    }
