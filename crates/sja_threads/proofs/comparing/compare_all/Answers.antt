use Rattle.std.proofs.Common.{◌≡◌, ℕ, ◌<◌, length, sym, ap, ◌∙◌, subst, arith}
use Rattle.std.specs.Prelude.{slice_index_or, slice_set}
use lib.Seq.{map-set_same, set-get_or}
use Rattle.std.proofs.lemmas.List.{get_or_default, get_or-map, length-set}
use Rattle.sja_threads.specs.declared.handover.Handover.{Handover}
use Rattle.sja_rings.specs.declared.node_driver.NodeDriver.{NodeDriver}
use Rattle.sja_threads.specs.Inside.Boards.{turns_at, turns_in}
use Rattle.sja_threads.proofs.Twin.InOrder.{order_more}
use Rattle.sja_threads.proofs.comparing.compare_all.Goals as goal

pub loop-node-preserved : goal.loop-node-preserved
loop-node-preserved g c =
    let inv = c.loop-node.invariant in
    let told = c.loop-node.board.told.items in
    let ws = c.loop-node.workeds.items in
    let place = c.from-place.result in
    let t = c.index_mut.result.now in
    let w = c.index_mut-in-loop-node.result.now in
    let one = c.compare_one in
    let node : place ≡ c.loop-node.node = c.from-place.ensures in
    let few = c.loop-node-test.true in
    let many = c.requires.told in
    let long = inv.many in
    let enough = c.requires.workeds in
    let here : place < length told = omega (arith, node, few, many, long) in
    let there : place < length ws =
    let same = ap length inv.workeds in omega (arith, node, few, enough, same) in
    let value : t ≡ slice_index_or told place t = c.index_mut.ensures.value in
    let worked : w ≡ slice_index_or ws place w = c.index_mut-in-loop-node.ensures.value in record {
      many = length-set told place one.new.told ∙ inv.many;
      told = map-set_same (λ x. x.known.list) told place one.new.told t
          (ap (λ k. k.list) one.ensures.told ∙ ap (λ x. x.known.list) value) ∙ inv.told;
      workeds =
          ap (λ k. slice_set ws place (record { end = w.end; driver = w.driver; done = k })) one.ensures.done
          ∙ ap (λ x. slice_set ws place x) worked ∙ set-get_or ws place w ∙ inv.workeds;
      order = order_more g.N.Order.version c.loop-node.node (turns_in c.args.board.now.told.items)
          c.args.workeds.now.items t.known.list w inv.order
          (ap (λ l. turns_at l c.loop-node.node) (sym inv.told)
          ∙ ap (λ n. turns_at (turns_in told) n) (sym node)
          ∙ get_or-map (λ x. x.known.list) told place t _ here ∙ ap (λ x. x.known.list) (sym value))
          (λ (d : Handover NodeDriver).
          ap (λ l. slice_index_or l c.loop-node.node d) (sym inv.workeds)
          ∙ ap (λ n. slice_index_or ws n d) (sym node)
          ∙ get_or_default ws place d w there ∙ sym worked)
          one.ensures.led;
    }
