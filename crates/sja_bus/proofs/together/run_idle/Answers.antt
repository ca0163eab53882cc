use Rattle.std.proofs.Common.{◌≡◌, Bool, true, false, List, rules, sym, subst, arith}
use Rattle.sja_bus.specs.declared.bus_node.BusNode.{BusNode}
use Rattle.sja_bus.specs.Inside.Idling.{all_after}
use Rattle.sja_bus.specs.Inside.Together.{AreQuietRows}
use Rattle.sja_bus.proofs.OneReader.IdleRows.{idle_rows, resting_all}
use Rattle.sja_bus.proofs.OneReader.QuietRows.{runs_none}
use Rattle.sja_bus.proofs.together.run_idle.Goals as goal

pub returns-then-to_rest : goal.returns-then-to_rest
returns-then-to_rest c = runs_none c.args.to_rest c.args.calm c.args.bus_nodes.now

pub returns-then-not-are_at_rest : goal.returns-then-not-are_at_rest
returns-then-not-are_at_rest c = runs_none c.args.to_rest c.args.calm c.args.bus_nodes.now

pub all_rest-requires : goal.all_rest-requires
all_rest-requires c = record {
  free = λ k s few.
      c.requires.free k s few;
}

pub returns : goal.returns
returns c =
    let bus_nodes = c.args.bus_nodes.now in let n = c.args.calm in
    let is : c.are_at_rest.result ≡ true = search rules in
    let any : c.args.to_rest ≡ false = search rules in
    let P : List BusNode → Type 0 = λ l. AreQuietRows c.args.to_rest bus_nodes n l in
    let Q : Bool → Type 0 = λ b. AreQuietRows b bus_nodes n (all_after n bus_nodes) in
    record {
      few = omega arith;
      rows = subst P (sym c.all_rest.ensures) (subst Q (sym any) (idle_rows bus_nodes c.requires.ready
          (resting_all bus_nodes c.requires.ready c.requires.told (c.are_at_rest.ensures.rest is)) n));
    }
