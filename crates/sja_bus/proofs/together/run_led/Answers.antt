use Rattle.std.proofs.Common.{◌≡◌, ◌<◌, ℕ, length, take, arith, ap, ◌∙◌, subst}
use Rattle.std.specs.Prelude.{slice_index_or, slice_set}
use Rattle.std.proofs.lemmas.List.{length-set, length-take-le, get_or-set_same as set_here}
use Rattle.can_bits.specs.declared.shift.Shift.{Shift}
use Rattle.can_node.specs.Together.{reader_of}
use Rattle.sja_bus.specs.declared.bus_node.BusNode.{BusNode}
use Rattle.sja_bus.specs.Inside.Rows.{EachBusNode}
use Rattle.sja_bus.specs.Inside.Together.{AreQuietRows, BusNodeGoesOn}
use Rattle.sja_bus.proofs.OneReader.LedBusNodes.{led_rows, no_rows}
use Rattle.sja_bus.proofs.together.run_led.Goals as goal

pub returns-then-count-gt0-clause-rows : goal.returns-then-count-gt0-clause-rows
returns-then-count-gt0-clause-rows c = λ to_rest.
    let bus_nodes = c.args.bus_nodes.now in let lead = c.args.lead in let s = c.index-bus_nodes-lead.result in
    let new = c.send_inside-count.new.self in let after = c.all_go_on.new.bus_nodes in
    let count = c.send_inside-count.result in let levels = c.send_inside-count.new.levels in
    let few = c.send_inside-count.ensures.few in let size = c.send_inside-count.ensures.count in
    let one : BusNode = record (slice_index_or bus_nodes lead s) { node = new } in
    let same : c.reader-reader.result ≡ reader_of new =
    c.reader-reader.ensures ∙ ap (λ (t : BusNode). reader_of t.node) (set_here bus_nodes lead one _ c.requires.led.few)
    in
    let all : length after ≡ length bus_nodes =
    let kept = c.all_go_on.auto.bus_nodes in let set = length-set bus_nodes lead one in omega (arith, kept, set) in
    let G : Shift → Type 0 = λ r. EachBusNode (BusNodeGoesOn lead r (take count levels)) (slice_set bus_nodes lead one)
    after in
    let P : ℕ → Type 0 = λ n. AreQuietRows to_rest bus_nodes n after in
    let all_taken = length-take-le count levels (omega (arith, few, size)) in
    let some : 0 < length (take count levels) = let more = c.if-count-gt0.true in omega (arith, more, all_taken) in
    subst P all_taken
    (led_rows to_rest bus_nodes after lead (length c.args.levels.now) s new (take count levels) c.requires.led
    c.requires.may.ready c.requires.may.told some c.send_inside-count.ensures.sends
    (λ other. c.send_inside-count.ensures.alike (length c.args.levels.now) other c.if-count-gt0.true few) all
    (subst G same c.all_go_on.ensures))

pub returns-else-count-gt0-clause-rows : goal.returns-else-count-gt0-clause-rows
returns-else-count-gt0-clause-rows c = λ to_rest.
    no_rows to_rest c.args.bus_nodes.now c.args.lead c.index-bus_nodes-lead.result c.send_inside-count.new.self
    c.send_inside-count.new.levels c.send_inside-count.result c.requires.led.few c.if-count-gt0.false
    c.send_inside-count.ensures.sends
