use Rattle.std.proofs.Common.{◌≡◌, arith, rules, refl, ◌∙◌}
use Rattle.sja_journal.specs.Records.{record_of}
use Rattle.sja_bus.proofs.bus_node.BusNode.turn_of.Goals as goal

pub returns : goal.returns
returns c =
    let follows = c.requires.follows.follows in
    let counts = c.counters-counters.ensures.counts in
    let below = c.counters-counters.ensures.below (record_of c.args.self.now.journal.entries)
    follows.found follows.stands in
    let same : c.min.result ≡ c.counters-counters.result.tec = search (rules, below) in record {
      activation = c.activation.ensures;
      events_are = refl;
      counters = λ entries found h. let s = counts entries found h in (same ∙ s.0, s.1, s.2);
      phase = c.phase.ensures.phase;
      aborted = c.has_dropped.ensures;
      overrun_is = grind arith;
    }
