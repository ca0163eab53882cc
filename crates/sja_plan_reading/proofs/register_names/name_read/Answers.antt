use Rattle.sja_plan_reading.specs.RegisterNames.{name_read}
use Rattle.sja_plan_reading.proofs.register_names.name_read.Goals as goal

pub returns-then-reset : goal.returns-then-reset
unfolding name_read
returns-then-reset c = rw c.if-reset.true c.first_name_in.ensures

pub returns-else-reset : goal.returns-else-reset
unfolding name_read
returns-else-reset c = rw c.if-reset.false c.last_name_in.ensures
