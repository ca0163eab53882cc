use Rattle.std.proofs.Common.{rules}
use Rattle.toml.specs.Parse.{after_element}
use Rattle.sja_plan_reading.proofs.tables.grammar.after_element.Goals as goal

pub returns-then-first-eq44-clause-value : goal.returns-then-first-eq44-clause-value
unfolding after_element
returns-then-first-eq44-clause-value c = search rules

pub returns-then-first-closing-clause-value : goal.returns-then-first-closing-clause-value
unfolding after_element
returns-then-first-closing-clause-value c = search rules

pub returns-else-first-closing-clause-value : goal.returns-else-first-closing-clause-value
unfolding after_element
returns-else-first-closing-clause-value c = search rules
