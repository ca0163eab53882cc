-- Every cut of a journal's record.
use Rattle.std.proofs.Common.{◌≡◌, List, ap, ◌∙◌, subst}
use Rattle.can_node.specs.declared.node.Node.{Node}
use Rattle.can_node_rules.specs.declared.counters.Counters.{Counters}
use Rattle.can_node_rules.specs.Context.{ContextValue}
use Rattle.can_node_rules.specs.FinishedPieces.{FinishedPiece, received}
use Rattle.can_node_rules.specs.NextBit.{now_in}
use Rattle.can_node.specs.Stands.{ShowsCounters}
use Rattle.can_node_rules.proofs.OneCut.CutOnce.{cut_once}
use Rattle.sja_journal.specs.declared.entry.Entry.{Entry}
use Rattle.sja_journal.specs.Records.{record_of}
use Rattle.sja_journal.specs.Verdicts.{HasVerdicts, IsLawful}
use Rattle.sja_bus.specs.Inside.Following.{Follows}
use Rattle.sja_bus_rules.specs.Lawful.{CountersAre}
use Rattle.can_node_rules.proofs.OneCut.SameCuts.{same_now}

pub lawful_of : (node : Node) (j : List Entry) → Follows node j → IsLawful j
lawful_of node j h = record {
  found = h.found;
  cut = h.stands.cut;
  verdicts = λ others cut. subst (λ (l : List FinishedPiece). HasVerdicts j (received l))
      (cut_once (record_of j) h.found others h.stands.cut cut) h.verdicts;
}

-- the counters that the node shows, by every cut
pub counters_of : (node : Node) (j : List Entry) (counters : Counters) → ShowsCounters node counters → Follows node j →
    CountersAre j counters.tec counters.rec
counters_of node j counters shows h found cut =
    let s = shows (record_of j) h.found h.stands in
    let same : now_in h.stands.cut ≡ now_in cut = same_now (record_of j) h.found found h.stands.cut cut in
    (s.0 ∙ ap (λ (d : ContextValue). d.tec) same, s.1 ∙ ap (λ (d : ContextValue). d.rec) same)
