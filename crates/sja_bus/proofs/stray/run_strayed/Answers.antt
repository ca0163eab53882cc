use Rattle.std.proofs.Common.{◌≡◌, ◌<◌, ℕ, length, take, arith, ap, ◌∙◌, subst}
use Rattle.std.specs.Prelude.{slice_index_or, slice_set}
use Rattle.std.proofs.lemmas.List.{length-set, length-take-le, get_or-set_same as set_here}
use Rattle.std.proofs.lemmas.List.{get_or_default as or_same}
use Rattle.can_bits.specs.declared.shift.Shift.{Shift}
use Rattle.can_node.specs.Together.{TakesBits, reader_of}
use Rattle.sja_bus.specs.declared.bus_node.BusNode.{BusNode}
use Rattle.sja_bus.specs.Inside.Rows.{EachBusNode}
use Rattle.sja_bus.specs.Inside.Together.{AreQuietRows, BusNodeGoesBeside}
use Rattle.sja_bus.proofs.OneReader.LedBusNodes.{no_rows}
use Rattle.sja_bus.proofs.OneReader.StrayRows.{stray_rows}
use Rattle.sja_bus.proofs.stray.run_strayed.Goals as goal

pub returns-then-count-gt0-clause-rows : goal.returns-then-count-gt0-clause-rows
returns-then-count-gt0-clause-rows c = λ to_rest.
    let bus_nodes = c.args.bus_nodes.now in let lead = c.args.lead in let stray = c.args.stray in
    let s = c.index-bus_nodes-lead.result in let at = slice_index_or bus_nodes lead s in
    let sent = c.send_beside-count in let new = sent.new.self in let after = c.all_go_beside.new.bus_nodes in
    let count = sent.result in let xs = take count sent.new.levels in let beside = sent.new.beside in
    let n = length c.args.levels.now in
    let few = sent.ensures.few in let size = sent.ensures.count in let more = c.if-count-gt0.true in
    let one : BusNode = record at { node = new } in
    let same : c.reader-reader.result ≡ reader_of new =
    c.reader-reader.ensures ∙ ap (λ (t : BusNode). reader_of t.node) (set_here bus_nodes lead one _ c.requires.few.0) in
    let all : length after ≡ length bus_nodes =
    let kept = c.all_go_beside.auto.bus_nodes in let set = length-set bus_nodes lead one in omega (arith, kept, set) in
    let G : Shift → Type 0 = λ r. EachBusNode (BusNodeGoesBeside lead stray r beside xs) (slice_set bus_nodes lead one)
    after in
    let P : ℕ → Type 0 = λ k. AreQuietRows to_rest bus_nodes k after in
    let T : Shift → Type 0 = λ r. TakesBits r xs beside in
    let taken = length-take-le count sent.new.levels (omega (arith, few, size)) in
    let some : 0 < length xs = omega (arith, more, taken) in
    subst P taken
    (stray_rows to_rest bus_nodes after lead stray n s new beside xs c.requires.few.0 c.requires.other c.requires.reads
    (λ t. subst T (c.reader-beside.ensures
    ∙ ap (λ (k : BusNode). reader_of k.node) (or_same bus_nodes stray c.index-bus_nodes-stray.result t
    c.requires.few.1))
    sent.ensures.takes) (c.requires.rest (omega (arith, more, few)) s) c.requires.may.ready c.requires.may.told some
    sent.ensures.sends (λ other. sent.ensures.alike n other more few) all (subst G same c.all_go_beside.ensures))

pub returns-else-count-gt0-clause-rows : goal.returns-else-count-gt0-clause-rows
returns-else-count-gt0-clause-rows c = λ to_rest.
    no_rows to_rest c.args.bus_nodes.now c.args.lead c.index-bus_nodes-lead.result c.send_beside-count.new.self
    c.send_beside-count.new.levels c.send_beside-count.result c.requires.few.0 c.if-count-gt0.false
    c.send_beside-count.ensures.sends
