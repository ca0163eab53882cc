use Rattle.std.proofs.Common.{◌≡◌, ◌<◌, length, rules}
use Rattle.std.specs.Prelude.{Err, slice_set}
use Rattle.sja_bus.specs.Inside.Idling.{after_bits, IsFullBy}
use Rattle.sja_bus.proofs.AllNodes.Many.{done_all, done_one}
use Rattle.sja_bus.proofs.ItemsTaken.Refusing.{rooms_one}
use Rattle.sja_bus.proofs.Resting.Stretches.{all_after_by}
use Rattle.sja_bus.proofs.Resting.WholeStretches.{full_by}
use Rattle.lemmas.proofs.Results.{err_is}
use Rattle.sja_bus.proofs.idle_bits.all_enter_idle_bits.Goals as goal

pub returns-clause-rested : goal.returns-clause-rested
returns-clause-rested c =
    all_after_by c.args.count c.args.bus_nodes.now c.loop-k.bus_nodes c.loop-k.auto.bus_nodes
    (done_all (λ m old new. new ≡ after_bits c.args.count old) c.loop-k.k c.args.bus_nodes.now c.loop-k.bus_nodes
    (search rules)
    c.loop-k.invariant.done)

pub returns-in_err-enter_idle_bits-clause-full : goal.returns-in_err-enter_idle_bits-clause-full
returns-in_err-enter_idle_bits-clause-full c =
    let n = c.args.count in let k = c.loop-k.k in let before = c.args.bus_nodes.now in let f =
    c.in_err-enter_idle_bits.field-0.0 in
    let few : k < length before = search rules in
    let is : c.from_residual.result ≡ Err f = search rules in
    let P : _ → Type 0 = λ x. IsFullBy n before (slice_set c.loop-k.bus_nodes k c.enter_idle_bits.new.self) x in
    err_is P c.from_residual.result f is
    (full_by n k before c.loop-k.bus_nodes c.index-bus_nodes-k.result c.enter_idle_bits.new.self f few
    c.loop-k.auto.bus_nodes
    c.requires.ready c.loop-k.invariant.done c.in_err-enter_idle_bits.ensures.full)

pub loop-k-preserved : goal.loop-k-preserved
loop-k-preserved c =
    let k = c.loop-k.k in let s = c.index-bus_nodes-k.result in let new = c.enter_idle_bits.new.self in
    let here : k < length c.loop-k.bus_nodes = search rules in
    let was : k < length c.args.bus_nodes.now = search rules in record {
      rooms = λ n h. rooms_one n c.loop-k.bus_nodes k s new here c.enter_idle_bits.ensures.room
          (c.loop-k.invariant.rooms n h);
      done = done_one (λ m old now. now ≡ after_bits c.args.count old) k c.args.bus_nodes.now c.loop-k.bus_nodes s new
          was
          c.loop-k.auto.bus_nodes c.in_ok-enter_idle_bits.ensures.rested c.loop-k.invariant.done;
    }

pub returns-in_err-enter_idle_bits-clause-rooms : goal.returns-in_err-enter_idle_bits-clause-rooms
returns-in_err-enter_idle_bits-clause-rooms c = λ n h.
    let here : c.loop-k.k < length c.loop-k.bus_nodes = search rules in
    rooms_one n c.loop-k.bus_nodes c.loop-k.k c.index-bus_nodes-k.result c.enter_idle_bits.new.self here
    c.enter_idle_bits.ensures.room (c.loop-k.invariant.rooms n h)

pub returns-clause-rooms : goal.returns-clause-rooms
returns-clause-rooms c = c.loop-k.invariant.rooms
