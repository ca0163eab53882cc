-- What every run promises, from what its bus and its drivers promise.
use Rattle.std.proofs.Common.{◌≡◌, ℕ, ◌<◌, ◌≤◌, List, [], length, map, subst, arith}
use Rattle.std.proofs.lemmas.List.{length-map, get_or-map}
use Rattle.std.specs.Prelude.{slice_index_or}
use Rattle.sja_journal.specs.declared.entry.Entry.{Entry}
use Rattle.sja_journal.specs.Places.{place_of}
use Rattle.sja_journal.specs.Verdicts.{IsLawful}
use Rattle.sja_bus_rules.specs.Lawful.{CountersAre, IsBusRun}
use Rattle.sja_bus_rules.specs.Wire.{journal_at}
use Rattle.sja_driver.specs.TypedActs.{TypedAct}
use Rattle.sja_plan.specs.Plan.{PlanValue}
use Rattle.sja_log.specs.Log.{NodeValue, RunValue, journals_in}
use Rattle.sja_promises.specs.Runs.{IsTrace, IsRun}
use Rattle.sja_promises.specs.Settling.{AreSettled}
use Rattle.sja_promises.proofs.Account.Accounts.{account_of}
use Rattle.sja_driver.proofs.Trace.Stepping.{opened_begun}

pub journal_there : (nodes : List NodeValue) (k : ℕ) (d : NodeValue) → k < length nodes →
    journal_at (map (λ (n : NodeValue). n.journal) nodes) k ≡ (slice_index_or nodes k d).journal
journal_there nodes k d less = get_or-map (λ (n : NodeValue). n.journal) nodes k d [] less

-- a node's activations have begun in its journal
pub begun_by : (version : ℕ) (node : NodeValue) (acts : List TypedAct) → IsTrace version node acts →
    length node.activations ≤ (place_of node.journal).activation
begun_by version node acts trace =
    let o = trace.opened in
    let b = opened_begun acts node.journal trace.answered.gives trace.given in omega (arith, o, b)

-- by the bus's promise, the traces of the drivers, and activations that are settled
pub run_of : (plan : PlanValue) (log : RunValue) (acts : List (List TypedAct)) → log.version ≡ plan.version →
    length log.nodes ≡ length plan.nodes →
    IsBusRun plan.strikes log.bits (journals_in log) →
    ((k : ℕ) (d : NodeValue) → k < length log.nodes → let node = slice_index_or log.nodes k d in
    CountersAre node.journal node.txerr node.rxerr) →
    ((k : ℕ) (d : NodeValue) → k < length log.nodes → IsTrace plan.version
    (slice_index_or log.nodes k d) (slice_index_or acts k [])) →
    ((k : ℕ) (d : NodeValue) → k < length log.nodes → AreSettled (slice_index_or log.nodes k d)) →
    IsRun plan log acts
run_of plan log acts version count bus counters traces settled = record {
  version = version;
  count = count;
  nodes = λ k d less.
      let node = slice_index_or log.nodes k d in record {
        account = account_of node (lawful k d less) (begun_by plan.version node (slice_index_or acts k [])
            (traces k d less)) (settled k d less);
        counters = counters k d less;
        trace = traces k d less;
        settled = settled k d less;
      };
  bus = bus;
}
  where
    lawful : (k : ℕ) (d : NodeValue) → k < length log.nodes → IsLawful (slice_index_or log.nodes k d).journal
    lawful k d less =
        let many = length-map log.nodes (λ (n : NodeValue). n.journal) in
        subst (λ (j : List Entry). IsLawful j) (journal_there log.nodes k d less)
        (bus.lawful k (omega (arith, many, less)))
