-- A log with other steps done than its own (this project's own rule).
use Rattle.std.specs.Prelude.{List, [], ◌∷◌}
use Rattle.sja_log.specs.Log.{NodeValue, RunValue}
use Rattle.sja_log.specs.declared.end.End.{End}
use Rattle.sja_steps.specs.declared.step_record.StepRecord.{StepRecord}

-- nodes with these steps done, each in place of its own
abbrev pub nodes_with : List NodeValue → List (List StepRecord) → List NodeValue
nodes_with [] done = []
nodes_with (node ∷ nodes) [] = node ∷ nodes
nodes_with (node ∷ nodes) (steps ∷ done) = record node { done = steps } ∷ nodes_with nodes done

-- a log whose nodes have these steps done, and that ends so
abbrev pub log_with : RunValue → List (List StepRecord) → End → RunValue
log_with log done end = record log { end = end; nodes = nodes_with log.nodes done }
