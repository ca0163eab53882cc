use Rattle.std.proofs.Common.{◌<◌, length, rules, sym, subst}
use Rattle.text_wave.specs.declared.probe.Probe.{Probe}
use Rattle.text_wave.specs.Inside.Meters.{IsReading}
use Rattle.text_wave.specs.Inside.Probes.{Finishes}
use Rattle.text_wave.proofs.BitByBit.Going.{reading_at}
use Rattle.lemmas.proofs.ChangedInTurn.{part_none, part_at, part_next, part_all}
use Rattle.text_wave.proofs.probes.finish_all.Goals as goal

pub loop-k-init : goal.loop-k-init
loop-k-init c = part_none Finishes c.args.probes.now

pub finish-requires : goal.finish-requires
finish-requires c =
    let k = c.loop-k.k in let d = c.index-probes-k.result in
    let here : k < length c.loop-k.probes = search rules in
    let there : k < length c.args.probes.now = search rules in
    let P : Probe → Type 0 = λ p. IsReading p.meter in
    subst P (sym (part_at Finishes k c.args.probes.now c.loop-k.probes d c.loop-k.invariant here))
    (reading_at c.args.probes.now k d c.requires there)

pub loop-k-preserved : goal.loop-k-preserved
loop-k-preserved c =
    let here : c.loop-k.k < length c.loop-k.probes = search rules in
    part_next Finishes c.loop-k.k c.args.probes.now c.loop-k.probes c.index-probes-k.result c.finish.new.self
    c.loop-k.invariant here c.finish.ensures

pub returns : goal.returns
returns c = part_all Finishes c.loop-k.k c.args.probes.now c.loop-k.probes c.loop-k.invariant (search rules)
