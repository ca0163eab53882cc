use Rattle.std.proofs.Common.{inr}
use Rattle.sja_plan_reading.proofs.FlatValues.{not_true}
use Rattle.sja_plan_reading.proofs.tables.room.Room.look.Goals as goal

pub returns-clause-odd : goal.returns-clause-odd
returns-clause-odd c odd =
    inr (c.in_ok-may.ensures.no (not_true c.in_ok-may.may odd))
