use Rattle.sja_plan_text.specs.Names.{register_name}
use Rattle.sja_plan_text.proofs.names.written_name.Goals as goal

-- the rows behind so many are those of the table
pub returns : goal.returns
unfolding register_name
returns c = c.name_of.ensures
