use Rattle.std.proofs.Common.{◌∷◌, List, [], map, ap, ◌∙◌, subst}
use Rattle.std.proofs.lemmas.List.{map-append}
use Rattle.sja_journal.specs.declared.entry.Entry.{Entry}
use Rattle.sja_sweep.specs.Errors.{HasErrors}
use Rattle.sja_sweep.proofs.TriedRuns.ErrorLemmas.{nodes_more}
use Rattle.sja_sweep.proofs.trial_run.errors_of_nodes.Goals as goal

pub loop-node-preserved : goal.loop-node-preserved
loop-node-preserved c =
    let errors = c.in_ok-errors_of.field-0 in
    nodes_more c.args.nodes.now (map (λ v. v.items) c.loop-node.all.items) (map (λ v. v.items) c.push.new.self.items)
    c.loop-node.node-index c.node-item.result errors.items c.loop-node-test.true c.node-item.is
    (ap (map (λ v. v.items)) c.in_ok-push.ensures.items
    ∙ map-append (λ v. v.items) c.loop-node.all.items (errors ∷ []))
    c.loop-node.invariant
    (subst (λ (j : List Entry). HasErrors j errors.items) c.journal.ensures c.in_ok-errors_of.ensures)
