use Rattle.std.proofs.Common.{rules}
use Rattle.toml.specs.Parse.{key_equals}
use Rattle.sja_plan_reading.proofs.tables.grammar.key_equals.Goals as goal

pub returns-in_err-key-clause-value : goal.returns-in_err-key-clause-value
unfolding key_equals
returns-in_err-key-clause-value c = search rules

pub returns-in_err-rest-clause-value : goal.returns-in_err-rest-clause-value
unfolding key_equals
returns-in_err-rest-clause-value c = search rules

pub returns-clause-value : goal.returns-clause-value
unfolding key_equals
returns-clause-value c = search rules
