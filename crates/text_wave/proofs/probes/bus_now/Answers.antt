use Rattle.std.proofs.Common.{◌≡◌, [], ◌∷◌, ap, ◌∙◌, arith}
use Rattle.std.proofs.lemmas.Grind.{common_steps}
use Rattle.can_levels.specs.Fields.{is_recessive}
use Rattle.can_levels.specs.BusLevel.{wired}
use Rattle.text_wave.specs.declared.probe.Probe.{Probe}
use Rattle.text_report.proofs.NodeTallies.BusLevels.{drives_more, all_drive}
use Rattle.text_wave.proofs.probes.bus_now.Goals as goal

pub loop-probe-preserved : goal.loop-probe-preserved
loop-probe-preserved c =
    let node = c.probe-item.result in let bus = c.loop-probe.bus in
    let more : c.with_node-bus.result ≡ wired (bus ∷ node.cursor.shows.driven ∷ []) =
    let is = c.with_node-bus.ensures in grind (arith, common_steps, is) in
    drives_more (λ (p : Probe). p.cursor.shows.driven) c.args.probes.now c.loop-probe.probe-index node bus _ _
    c.loop-probe-test.true c.probe-item.is more c.loop-probe.invariant

pub returns : goal.returns
returns c =
    c.is_recessive.ensures ∙ ap is_recessive
    (all_drive (λ (p : Probe). p.cursor.shows.driven) c.args.probes.now c.loop-probe.probe-index c.loop-probe.bus _
    c.loop-probe-test.false c.loop-probe.invariant)
