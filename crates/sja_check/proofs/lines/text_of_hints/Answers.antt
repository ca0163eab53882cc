use Rattle.std.proofs.Common.{rules}
use Rattle.sja_check.proofs.Growing.{hints_of}
use Rattle.sja_check.proofs.lines.text_of_hints.Goals as goal

-- all lines are there
pub returns : goal.returns
returns c = search (rules, hints_of)
