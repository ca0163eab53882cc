use Rattle.std.proofs.Common.{rules, ◌≤◌, ◌^◌, ℕ, List, sym, subst}
use Rattle.std.specs.Prelude.{All}
use Rattle.sja_threads.proofs.Start.FewActs.{all_few}
use Rattle.sja_threads.proofs.run_parts.RunParts.new.Goals as goal

pub new-requires-clause-steps : goal.new-requires-clause-steps
new-requires-clause-steps g c =
    subst (λ (l : List ℕ). All (λ n. n ≤ 2 ^ 58) l) (sym c.in_ok-steps.ensures.counts)
    (all_few c.args.plan.now c.limits.ensures)

pub returns-clause-parts : goal.returns-clause-parts
returns-clause-parts g c = record {
  bus = search rules;
  links = search rules;
  run = search rules;
  spent = search rules;
  starts = search rules;
  made = search rules;
  children = search rules;
  workeds = search rules;
}
