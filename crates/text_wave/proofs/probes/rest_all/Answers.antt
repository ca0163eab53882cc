use Rattle.std.proofs.Common.{◌<◌, length, rules, sym, subst}
use Rattle.text_wave.specs.Inside.WaveRest.{ProbeRests, ProbeRested}
use Rattle.text_wave.specs.declared.probe.Probe.{Probe}
use Rattle.lemmas.proofs.ChangedInTurn.{part_none, part_at, part_next, part_all}
use Rattle.text_wave.proofs.probes.rest_all.Goals as goal

pub loop-k-init : goal.loop-k-init
loop-k-init c = part_none (ProbeRested c.args.count) c.args.probes.now

pub rest-requires : goal.rest-requires
rest-requires c =
    let k = c.loop-k.k in let d = c.index-probes-k.result in
    let here : k < length c.loop-k.probes = search rules in
    let there : k < length c.args.probes.now = search rules in
    let P : Probe → Type 0 = λ p. ProbeRests c.args.count p in
    subst P (sym (part_at (ProbeRested c.args.count) k c.args.probes.now c.loop-k.probes d c.loop-k.invariant here))
    (c.requires k d there)

pub loop-k-preserved : goal.loop-k-preserved
loop-k-preserved c =
    let here : c.loop-k.k < length c.loop-k.probes = search rules in
    part_next (ProbeRested c.args.count) c.loop-k.k c.args.probes.now c.loop-k.probes c.index-probes-k.result
    c.rest.new.self c.loop-k.invariant here c.rest.ensures

pub returns : goal.returns
returns c = part_all (ProbeRested c.args.count) c.loop-k.k c.args.probes.now c.loop-k.probes c.loop-k.invariant
    (search rules)
