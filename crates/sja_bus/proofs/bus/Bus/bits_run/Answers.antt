use Rattle.std.proofs.Common.{◌≡◌, None, subst}
use Rattle.sja_bus_rules.specs.Lawful.{IsBusRun}
use Rattle.sja_bus_rules.specs.Buses.{AreOnLinks, BusValue}
use Rattle.sja_bus.proofs.AllNodes.Begins.{on_links}
use Rattle.sja_bus.proofs.AllNodes.Running.{bus_run}
use Rattle.sja_bus.proofs.bus.Bus.bits_run.Goals as goal

pub returns-clause-lawful : goal.returns-clause-lawful
returns-clause-lawful c =
    let b = c.self.inside in
    let P : BusValue → Type 0 = λ w. w.fault ≡ None → IsBusRun w.script w.run w.journals in
    subst P c.self.view_is (λ f. bus_run b.struck.script b.run b.bus_nodes.items (c.self.invariant.0.bus f))

pub returns-clause-within : goal.returns-clause-within
returns-clause-within c =
    let b = c.self.inside in
    let P : BusValue → Type 0 = λ w. w.fault ≡ None → AreOnLinks w.starts w.journals in
    subst P c.self.view_is (λ f. on_links b.starts b.bus_nodes.items (c.self.invariant.0.begun f))
