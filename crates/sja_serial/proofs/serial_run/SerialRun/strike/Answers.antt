use Rattle.std.proofs.Common.{rules}
use Rattle.sja_serial.proofs.WholeRun.Struck.{stands_if_struck, stands_by_if_struck}
use Rattle.sja_serial.proofs.serial_run.SerialRun.strike.Goals as goal

pub returns-clause-stands : goal.returns-clause-stands
returns-clause-stands c = stands_if_struck c.args.self.now _ c.args.strike c.strike.result (search rules)

pub returns-clause-by : goal.returns-clause-by
returns-clause-by c = stands_by_if_struck c.args.self.now _ c.args.strike c.strike.result (search rules)
