use Rattle.std.proofs.Common.{◌<◌, length, rules, ap, subst}
use Rattle.std.specs.Prelude.{slice_index_or}
use Rattle.std.proofs.lemmas.Bool.{eq-eqb, ne_eqb}
use Rattle.can_bits.specs.declared.shift.Shift.{Shift}
use Rattle.sja_bus.specs.Inside.Together.{BusNodeGoesBeside, BusNodeGoesOn}
use Rattle.sja_bus.proofs.AllNodes.Many.{done_one}
use Rattle.sja_bus.proofs.stray.all_go_beside.Goals.{else-k-stray, then-k-stray}
use Rattle.sja_bus.proofs.stray.all_go_beside.Goals as goal

pub loop-k-preserved : goal.loop-k-preserved
loop-k-preserved c =
    let k = c.loop-k.k in let lead = c.args.lead in let levels = c.args.levels.now in
    let s = c.index-bus_nodes-k.result in let old = slice_index_or c.loop-k.bus_nodes k s in let new = c.go_on.new.self
    in
    let was : k < length c.args.bus_nodes.now = search rules in
    let P : Shift → Type 0 = λ r. BusNodeGoesOn lead r levels k old new in
    let on : P c.if-k-stray.own.now = (
      λ same. c.go_on.ensures.sent (eq-eqb k lead same),
      λ other. let not_it = ne_eqb k lead other in (
        λ sends. c.go_on.ensures.sent_too not_it sends,
        λ reads. c.go_on.ensures.read not_it reads,
      ),
    ) in
    let goes : BusNodeGoesBeside lead c.args.stray c.args.reader.now c.args.beside.now levels k old new =
    elim c.if-k-stray.branch [
      | then-k-stray w ↦
          (λ same. subst P (ap (λ o. o.now) w.own-is) on, λ far. absurd (far w.if-k-stray.true))
      | else-k-stray w ↦
          (λ same. absurd (w.if-k-stray.false same), λ far. subst P (ap (λ o. o.now) w.own-is) on)
    ] in
    record {
      done = done_one (BusNodeGoesBeside lead c.args.stray c.args.reader.now c.args.beside.now levels) k
          c.args.bus_nodes.now
          c.loop-k.bus_nodes s new was c.loop-k.auto.bus_nodes goes c.loop-k.invariant.done;
    }
