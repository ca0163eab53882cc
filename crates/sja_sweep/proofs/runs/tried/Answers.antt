use Rattle.std.proofs.Common.{sym, ◌∙◌}
use Rattle.std.proofs.lemmas.List.{length-map}
use Rattle.sja_sweep.proofs.TriedRuns.ErrorLemmas.{as_many_errors, as_many_nodes}
use Rattle.sja_sweep.proofs.runs.tried.Goals as goal

pub told_of-requires-clause-errors : goal.told_of-requires-clause-errors
told_of-requires-clause-errors c =
    sym (length-map c.args.planned.now.errors.items (λ v. v.items))
    ∙ as_many_errors _ _ _ _ c.requires.planned c.in_ok-now.ensures.ok (sym c.in_ok-struck.ensures.nodes)
    ∙ length-map c.in_ok-now.now.errors.items (λ v. v.items)

pub told_of-requires-clause-nodes : goal.told_of-requires-clause-nodes
told_of-requires-clause-nodes c =
    as_many_nodes _ _ _ _ c.requires.planned c.in_ok-now.ensures.ok (sym c.in_ok-struck.ensures.nodes)
