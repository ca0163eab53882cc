use Rattle.std.proofs.Common.{◌≡◌, ◌<◌, ◌≤◌, ◌-◌, length, rules, sym, subst, arith}
use Rattle.sja_bus.specs.declared.bus_node.BusNode.{BusNode}
use Rattle.sja_bus.specs.Inside.Idling.{after_bits}
use Rattle.sja_bus.proofs.AllNodes.Many.{done_all, done_none, done_one}
use Rattle.sja_bus.proofs.Resting.Stretches.{all_after_by}
use Rattle.sja_bus.proofs.idle_bits.all_rest.Goals as goal

pub loop-k-init : goal.loop-k-init
loop-k-init c = record { done = done_none (λ m old new. new ≡ after_bits c.args.count old) c.args.bus_nodes.now }

pub rest-requires : goal.rest-requires
rest-requires c =
    let k = c.loop-k.k in let s = c.index-bus_nodes-k.result in let n = c.args.count in
    let was : k < length c.args.bus_nodes.now = search rules in
    let P : BusNode → Type 0 = λ x. n ≤ x.journal.room.all - length x.journal.entries in
    subst P (sym ((c.loop-k.invariant.done k s was).1 (omega arith))) (c.requires.free k s was)

pub loop-k-preserved : goal.loop-k-preserved
loop-k-preserved c =
    let k = c.loop-k.k in let was : k < length c.args.bus_nodes.now = search rules in record {
      done = done_one (λ m old new. new ≡ after_bits c.args.count old) k c.args.bus_nodes.now c.loop-k.bus_nodes
          c.index-bus_nodes-k.result c.rest.new.self was c.loop-k.auto.bus_nodes c.rest.ensures c.loop-k.invariant.done;
    }

pub returns : goal.returns
returns c =
    let all : length c.args.bus_nodes.now ≤ c.loop-k.k = search rules in
    all_after_by c.args.count c.args.bus_nodes.now c.loop-k.bus_nodes c.loop-k.auto.bus_nodes
    (done_all (λ m old new. new ≡ after_bits c.args.count old) c.loop-k.k c.args.bus_nodes.now c.loop-k.bus_nodes all
    c.loop-k.invariant.done)
