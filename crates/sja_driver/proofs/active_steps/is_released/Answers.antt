use Rattle.sja_regs.specs.Registers.{status_of}
use Rattle.sja_driver.specs.Drivers.{nothing_seen}
use Rattle.sja_driver.proofs.active_steps.is_released.Goals as goal

pub returns-clause-value : goal.returns-clause-value
returns-clause-value c = c.shows_released.ensures (status_of c.args.port.now nothing_seen) c.read-status.ensures.value
