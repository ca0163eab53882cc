use Rattle.std.proofs.Common.{arith}
use Rattle.sja_plan_reading.specs.Inside.Names.{texts_of}
use Rattle.sja_plan_reading.specs.declared.tables.definition.Definition.{Definition}
use Rattle.sja_plan_reading.specs.declared.tables.what.What.TheVariants as whats
use Rattle.sja_plan_reading.proofs.Strange.{strange_at}
use Rattle.sja_plan_reading.proofs.tables.strange.has_strange.Goals as goal

pub returns-then-is_strange_one : goal.returns-then-is_strange_one
returns-then-is_strange_one c _ =
    let none : Definition = record {
      path = record { first = 0; count = 0 };
      dots = record {
        first = 0;
        count =
            0;
      };
      last = 0;
      what = whats.Pair;
    } in
    strange_at (texts_of c.args.names.now) c.args.definitions.now c.loop-place.place none (omega arith)
    (c.is_strange_one.ensures c.if-is_strange_one.true)
