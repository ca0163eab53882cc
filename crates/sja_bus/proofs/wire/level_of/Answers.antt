use Rattle.std.proofs.Common.{◌≡◌, suc, ◌+◌, drop, arith, sym, ap, ◌∙◌}
use Rattle.can_levels.specs.BusLevel.{wired}
use Rattle.sja_bus.specs.Inside.Rows.{driven_by}
use Rattle.sja_bus.proofs.AllNodes.Levels.{dominant_here, recessive_here, none_left, not_dominant}
use Rattle.sja_bus.proofs.wire.level_of.Goals as goal

pub loop-k-preserved : goal.loop-k-preserved
loop-k-preserved c =
    let bus_nodes = c.args.bus_nodes.now in let k = c.loop-k.k in
    let e : suc k ≡ k + 1 = omega arith in
    c.loop-k.invariant ∙ recessive_here bus_nodes k _ c.loop-k-test.true (not_dominant _ c.in_default.not-Dominant)
    ∙ ap (λ n. wired (driven_by (drop n bus_nodes))) e

pub returns-in-Dominant : goal.returns-in-Dominant
returns-in-Dominant c = sym (c.loop-k.invariant ∙ dominant_here c.args.bus_nodes.now c.loop-k.k _
    c.loop-k-test.true c.in-Dominant.is)

pub returns : goal.returns
returns c = sym (c.loop-k.invariant ∙ none_left c.args.bus_nodes.now c.loop-k.k c.loop-k-test.false)
