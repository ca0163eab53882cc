-- What a driver writes that knows addresses and bytes alone: each byte to each of the 256 addresses, in either mode
-- (SJA1000 data sheet, 6.4.1).
use Rattle.std.specs.Prelude.{◌==◌, ℕ, Bool, if◌then◌else◌, List, [], ◌∷◌}
use Rattle.sja_regs.specs.declared.registers.Registers.{Registers}
use Rattle.sja_regs.specs.Commands.{command_of}
use Rattle.sja_regs.specs.Registers.{is_forced}
use Rattle.sja_steps.specs.declared.step.Step.{Step}
use Rattle.sja_steps.specs.declared.step.Step.TheVariants.{Write}
use Rattle.sja_driver.specs.ModeWrites.{mode_steps}
use Rattle.sja_driver.specs.CommandWrites.{command_steps}

-- the steps of a typed driver that a write of this value to this address is, where the driver is out of reset (`true`)
-- or in it. Any other address is written by that step, and where its port refuses it nothing changes there
abbrev pub write_steps : Registers → Bool → ℕ → ℕ → List Step
write_steps p out address value =
    if address == 0 then mode_steps p.mode (is_forced p) out value
    else if address == 1 then command_steps p (command_of value) else Write address value ∷ []
