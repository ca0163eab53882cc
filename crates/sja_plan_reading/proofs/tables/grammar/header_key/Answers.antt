use Rattle.std.proofs.Common.{rules}
use Rattle.toml.specs.Parse.{header_key}
use Rattle.sja_plan_reading.proofs.tables.grammar.header_key.Goals as goal

pub returns-in_err-key-clause-value : goal.returns-in_err-key-clause-value
unfolding header_key
returns-in_err-key-clause-value c = search rules

pub returns-in_err-rest-clause-value : goal.returns-in_err-rest-clause-value
unfolding header_key
returns-in_err-rest-clause-value c = search rules

pub returns-clause-value : goal.returns-clause-value
unfolding header_key
returns-clause-value c = search rules
