use Rattle.sja_bus.proofs.OneReader.QuietRows.{runs_none}
use Rattle.sja_bus.proofs.together.run_together.Goals as goal

pub returns-else-run-eq1 : goal.returns-else-run-eq1
returns-else-run-eq1 c = runs_none c.args.to_rest c.args.calm c.args.bus_nodes.now
