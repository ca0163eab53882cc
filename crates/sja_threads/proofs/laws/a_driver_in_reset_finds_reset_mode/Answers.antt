use Rattle.std.proofs.Common.{refl}
use Rattle.sja_regs.specs.DriverSettings.{settings_in}
use Rattle.sja_regs.specs.Registers.{at_power_on}
use Rattle.sja_threads.proofs.Driver.InReset.{reset_kept}
use Rattle.sja_threads.proofs.laws.a_driver_in_reset_finds_reset_mode.Goals as goal

pub returns : goal.returns
returns c = λ version acts set leads out. reset_kept (settings_in (at_power_on version)) acts set leads refl out
