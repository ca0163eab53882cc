use Rattle.std.proofs.Common.{◌≡◌, ℕ, ◌<◌, true, false, None, List, length, arith, subst}
use Rattle.std.specs.Prelude.{slice_index_or}
use Rattle.can_node.specs.Stands.{ShowsRest}
use Rattle.sja_journal.specs.Records.{record_of}
use Rattle.sja_bus.specs.declared.bus_node.BusNode.{BusNode}
use Rattle.sja_bus_rules.specs.Buses.{BusValue}
use Rattle.sja_bus_rules.specs.Wire.{journal_at}
use Rattle.sja_bus_rules.specs.Lawful.{IsBusRun}
use Rattle.sja_bus.specs.BusRest.{RestsAs}
use Rattle.sja_bus.specs.Inside.Rows.{journals_of}
use Rattle.sja_bus.proofs.AllNodes.Running.{count_is, bus_run}
use Rattle.sja_bus.proofs.Resting.Rests.{rests_at}
use Rattle.sja_bus.proofs.bus.Bus.at_rest.Goals as goal

pub returns-clause-lawful : goal.returns-clause-lawful
returns-clause-lawful c =
    let b = c.self.inside in
    let P : BusValue → Type 0 = λ w. w.fault ≡ None → IsBusRun w.script w.run w.journals in
    subst P c.self.view_is (λ f. bus_run b.struck.script b.run b.bus_nodes.items (c.self.invariant.0.bus f))

pub returns-clause-rest : goal.returns-clause-rest
returns-clause-rest c =
    let b = c.self.inside in let bus_nodes = b.bus_nodes.items in
    let v : c.as_slice.result.now ≡ bus_nodes = c.as_slice.ensures.value in
    let P : BusValue → Type 0 = λ w. w.fault ≡ None → c.are_at_rest.result ≡ true → (node : ℕ) →
    node < length w.journals → RestsAs (record_of (journal_at w.journals node)) true in
    let S : List BusNode → Type 0 = λ l. (k : ℕ) (s : BusNode) → k < length l →
    ShowsRest (slice_index_or l k s).node true in
    subst P c.self.view_is (λ f yes node few.
    let near : node < length bus_nodes = let n = count_is bus_nodes in omega (arith, few, n) in
    rests_at bus_nodes true node (c.self.invariant.0.bus f).ready few
    (λ s. subst S v (c.are_at_rest.ensures.rest yes) node s near))

pub returns-clause-busy : goal.returns-clause-busy
returns-clause-busy c =
    let b = c.self.inside in let bus_nodes = b.bus_nodes.items in
    let v : c.as_slice.result.now ≡ bus_nodes = c.as_slice.ensures.value in
    let P : BusValue → Type 0 = λ w. w.fault ≡ None → c.are_at_rest.result ≡ false → (node : ℕ)
    × (node < length w.journals) × RestsAs (record_of (journal_at w.journals node)) false in
    let S : List BusNode → Type 0 = λ l. (k : ℕ) × (k < length l)
    × ((s : BusNode) → ShowsRest (slice_index_or l k s).node false) in
    subst P c.self.view_is (λ f no.
    let which = subst S v (c.are_at_rest.ensures.busy no) in
    let few : which.0 < length (journals_of bus_nodes) = let n = count_is bus_nodes in let m = which.1 in omega
    (arith, m, n) in
    (which.0, few, rests_at bus_nodes false which.0 (c.self.invariant.0.bus f).ready few which.2))
