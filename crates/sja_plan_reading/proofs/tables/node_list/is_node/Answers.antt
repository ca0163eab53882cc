use Rattle.std.proofs.Common.{◌≡◌, ◌==◌, true, false, Some, subst, arith}
use Rattle.std.proofs.lemmas.Grind.{common_steps}
use Rattle.toml_parser.specs.Lexical.{first, skip_blank}
use Rattle.toml_parser.specs.Reading.{key_view}
use Rattle.toml.specs.Parse.{key_equals}
use Rattle.sja_plan_reading.proofs.NodeItems.{no_table, no_key, other_key}
use Rattle.sja_plan_reading.proofs.tables.node_list.is_node.Goals as goal

pub returns-then-first-ne123-clause-no : goal.returns-then-first-ne123-clause-no
returns-then-first-ne123-clause-no c _ d rest read =
    let s = c.args.text.now in
    let other : (first s == 123) ≡ false = grind (arith, common_steps) in
    no_table s other d rest read

pub returns-then-first-eq125-clause-no : goal.returns-then-first-eq125-clause-no
returns-then-first-eq125-clause-no c _ d rest read =
    let s = c.args.text.now in
    let opens : (first s == 123) ≡ true = grind (arith, common_steps) in
    let closing : (first (skip_blank c.skip.result.now) == 125) ≡ true = grind (arith, common_steps) in
    no_key s opens (subst (λ t. (first (skip_blank t) == 125) ≡ true) c.skip.ensures.rest closing) d rest read

pub returns-in-Ok-clause-no : goal.returns-in-Ok-clause-no
returns-in-Ok-clause-no c none d rest read =
    let s = c.args.text.now in
    let k = key_view c.in-Ok.key in
    let value = c.in-Ok.field-0-1.now in
    let opens : (first s == 123) ≡ true = grind (arith, common_steps) in
    let more : (first (skip_blank c.skip.result.now) == 125) ≡ false = grind (arith, common_steps) in
    let key = subst (λ t. key_equals t ≡ Some (k, value)) c.skip_blank-start.ensures.rest c.in-Ok.ensures.value in
    other_key s value k opens (subst (λ t. (first (skip_blank t) == 125) ≡ false) c.skip.ensures.rest more)
    (subst (λ t. key_equals (skip_blank t) ≡ Some (k, value)) c.skip.ensures.rest key) (c.is_of_steps.ensures none) d
    rest read
