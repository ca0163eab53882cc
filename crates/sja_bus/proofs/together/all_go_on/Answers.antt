use Rattle.std.proofs.Common.{◌-◌, ◌<◌, ◌≤◌, length, rules, arith, sym, subst}
use Rattle.std.proofs.lemmas.Bool.{eq-eqb, ne_eqb}
use Rattle.sja_bus.specs.declared.bus_node.BusNode.{BusNode}
use Rattle.sja_bus.specs.Inside.Together.{BusNodeGoesOn}
use Rattle.sja_bus.proofs.AllNodes.Many.{done_all, done_none, done_one}
use Rattle.sja_bus.proofs.together.all_go_on.Goals as goal

pub loop-k-init : goal.loop-k-init
loop-k-init c = record {
  done = done_none (BusNodeGoesOn c.args.lead c.args.reader.now c.args.levels.now) c.args.bus_nodes.now;
}

pub go_on-requires-clause-free : goal.go_on-requires-clause-free
go_on-requires-clause-free c =
    let k = c.loop-k.k in let s = c.index-bus_nodes-k.result in let n = length c.args.levels.now in
    let was : k < length c.args.bus_nodes.now = search rules in
    let P : BusNode → Type 0 = λ x. n ≤ x.journal.room.all - length x.journal.entries in
    subst P (sym ((c.loop-k.invariant.done k s was).1 (omega arith))) (c.requires.free k s was)

pub loop-k-preserved : goal.loop-k-preserved
loop-k-preserved c =
    let k = c.loop-k.k in let lead = c.args.lead in
    let was : k < length c.args.bus_nodes.now = search rules in record {
      done = done_one (BusNodeGoesOn lead c.args.reader.now c.args.levels.now) k c.args.bus_nodes.now c.loop-k.bus_nodes
          c.index-bus_nodes-k.result c.go_on.new.self was c.loop-k.auto.bus_nodes (
            λ same. c.go_on.ensures.sent (eq-eqb k lead same),
            λ other. let not_it = ne_eqb k lead other in (
              λ sends. c.go_on.ensures.sent_too not_it sends,
              λ reads. c.go_on.ensures.read not_it reads,
            ),
          ) c.loop-k.invariant.done;
    }

pub returns : goal.returns
returns c =
    let all : length c.args.bus_nodes.now ≤ c.loop-k.k = search rules in
    done_all (BusNodeGoesOn c.args.lead c.args.reader.now c.args.levels.now) c.loop-k.k c.args.bus_nodes.now
    c.loop-k.bus_nodes
    all c.loop-k.invariant.done
