use Rattle.std.proofs.Common.{ap, ◌∙◌}
use Rattle.can_levels.specs.Fields.{is_recessive}
use Rattle.text_wave.specs.declared.probe.Probe.{Probe}
use Rattle.text_report.proofs.NodeTallies.BusLevels.{drives_more, all_drive}
use Rattle.text_wave.proofs.probes.bus_before.Goals as goal

pub loop-probe-preserved : goal.loop-probe-preserved
loop-probe-preserved c =
    drives_more (λ (p : Probe). p.cursor.showed.driven) c.args.probes.now c.loop-probe.probe-index
    c.probe-item.result c.loop-probe.bus _ _
    c.loop-probe-test.true c.probe-item.is c.with_node-bus.ensures c.loop-probe.invariant

pub returns : goal.returns
returns c =
    c.is_recessive.ensures ∙ ap is_recessive
    (all_drive (λ (p : Probe). p.cursor.showed.driven) c.args.probes.now c.loop-probe.probe-index c.loop-probe.bus _
    c.loop-probe-test.false c.loop-probe.invariant)
