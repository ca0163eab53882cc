use Rattle.std.proofs.Common.{◌≡◌, ◌==◌, true, false, arith}
use Rattle.std.proofs.lemmas.Grind.{common_steps}
use Rattle.toml_parser.specs.Lexical.{first}
use Rattle.sja_plan_reading.proofs.FlatValues.{table_is_odd, deep_is_odd}
use Rattle.sja_plan_reading.proofs.tables.flat.is_flat.Goals as goal

pub returns-then-first-eq123-clause-no : goal.returns-then-first-eq123-clause-no
returns-then-first-eq123-clause-no c _ d rest read =
    let s = c.args.text.now in
    let other : (first s == 91) ≡ false = grind (arith, common_steps) in
    let opens : (first s == 123) ≡ true = grind (arith, common_steps) in
    table_is_odd s d rest read other opens

pub returns-in-Err-NoToml-clause-no : goal.returns-in-Err-NoToml-clause-no
returns-in-Err-NoToml-clause-no c _ d rest read =
    deep_is_odd c.args.text.now d rest read (c.in-Err-NoToml.ensures.bad c.in-Err-NoToml.field-0-is)
