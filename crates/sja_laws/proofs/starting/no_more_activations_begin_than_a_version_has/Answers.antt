use Rattle.std.proofs.Common.{arith}
use Rattle.sja_journal.specs.Sizes.{most_activations}
use Rattle.sja_journal.proofs.Growing.Activations.{has_activations}
use Rattle.sja_regs.specs.Registers.{at_power_on}
use Rattle.sja_bus_rules.specs.Wire.{journal_at}
use Rattle.sja_serial.proofs.AllNodes.Several.{first_driver, some_links}
use Rattle.sja_laws.proofs.OneNode.Activations.{answered_few, trace_has}
use Rattle.sja_laws.proofs.starting.no_more_activations_begin_than_a_version_has.Goals as goal

pub returns-clause-moment : goal.returns-clause-moment
returns-clause-moment c = λ setup r acts node at there.
    let count = at.count.drivers in
    let driver = first_driver r.drivers (omega (arith, count, there)) in
    let own = at.nodes node driver (at_power_on 1) some_links there in
    let begun = own.linked.level.begun in
    let few = answered_few setup.version _ own.traced.traces.answered in
    has_activations (most_activations setup.version) (journal_at r.bus.journals node) (omega (arith, begun, few))

pub returns-clause-log : goal.returns-clause-log
returns-clause-log c = λ plan log acts k d run there. trace_has plan.version _ _ (run.nodes k d there).trace
