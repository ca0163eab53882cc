use Rattle.std.proofs.Common.{◌≤◌, rules, arith}
use Rattle.sja_bus.proofs.OneReader.QuietRows.{runs_none}
use Rattle.sja_bus.proofs.together.run_sent.Goals as goal

pub returns-in-Ok : goal.returns-in-Ok
returns-in-Ok c =
    let few : c.run_led.result ≤ c.at_once-most.result = search rules in
    let calm = c.at_once-most.ensures.calm in record {
      few = omega (arith, few, calm);
      rows = c.run_led.ensures.rows c.args.to_rest;
    }

pub returns-then-not-has_read_as : goal.returns-then-not-has_read_as
returns-then-not-has_read_as c = runs_none c.args.to_rest c.args.calm c.args.bus_nodes.now
