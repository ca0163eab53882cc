use Rattle.std.proofs.Common.{map}
use Rattle.sja_threads.proofs.run.run_threads.Given as goal

abbrev pub ghosts-run_ordered : goal.ghosts-run_ordered
ghosts-run_ordered g a = record {
  version = a.plan.now.version;
  turns = map (λ l. l.turns.name) a.lists.items;
  acts = map (λ l. l.acts.name) a.lists.items;
}
