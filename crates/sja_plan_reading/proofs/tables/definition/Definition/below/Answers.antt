use Rattle.std.proofs.Common.{arith}
use Rattle.sja_plan_reading.proofs.KeyTexts.{path_step, path_none}
use Rattle.sja_plan_reading.proofs.tables.definition.Definition.below.Goals as goal

pub returns-in_ok-definition-clause-below : goal.returns-in_ok-definition-clause-below
returns-in_ok-definition-clause-below c ts =
    rw (path_step ts c.args.self.now.path c.in_ok-definition.field-0 c.in_ok-definition.ensures.behind.0
    c.in_ok-definition.ensures.behind.1)

pub returns-in_ok-definition-2-clause-below : goal.returns-in_ok-definition-2-clause-below
returns-in_ok-definition-2-clause-below c ts =
    rw (
      path_none ts c.args.self.now.path (omega arith),
      path_step ts c.args.self.now.dots c.in_ok-definition-2.field-0 c.in_ok-definition-2.ensures.behind.0
          c.in_ok-definition-2.ensures.behind.1,
    )
