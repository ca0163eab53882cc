use Rattle.std.proofs.Common.{◌≡◌, ℕ, rules, sym, subst}
use Rattle.sja_journal.specs.Records.{record_of}
use Rattle.sja_bus_rules.specs.Lawful.{CountersAre}
use Rattle.sja_bus.proofs.WholeBus.Lawfuls.{counters_of}
use Rattle.sja_bus.proofs.bus_node.BusNode.into_log.Goals as goal

pub returns-clause-log : goal.returns-clause-log
returns-clause-log c = record {
  journal = c.in_ok-journal.ensures.journal;
  counters = λ h.
      let j = c.args.self.journal.entries in
      let k = c.counters-counters.result in
      let below = c.counters-counters.ensures.below (record_of j) h.found h.stands in
      let same : c.min.result ≡ k.tec = search (rules, below) in
      let P : ℕ → Type 0 = λ n. CountersAre j n k.rec in
      subst P (sym same) (counters_of c.args.self.node j k c.counters-counters.ensures.counts h);
}
