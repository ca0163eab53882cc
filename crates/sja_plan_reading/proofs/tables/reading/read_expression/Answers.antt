use Rattle.std.proofs.Common.{◌≡◌, ◌==◌, sym, ◌∙◌, inl, true, false, slice_index, arith}
use Rattle.std.proofs.lemmas.Grind.{common_steps}
use Rattle.toml_parser.specs.Lexical.{first}
use Rattle.toml.specs.Tables.{key_value, std_table, array_table}
use Rattle.sja_plan_reading.proofs.ReadLines.{expression_pair, expression_array, expression_table}
use Rattle.sja_plan_reading.proofs.Refusals.{refuses_err, not_memory}
use Rattle.sja_plan_reading.proofs.RefusedTexts.{expression_no_pair, expression_no_array}
use Rattle.sja_plan_reading.proofs.RefusedTexts.{expression_open_array, expression_no_table}
use Rattle.sja_plan_reading.proofs.tables.reading.read_expression.Goals as goal

pub returns-in_ok-rest-clause-ok : goal.returns-in_ok-rest-clause-ok
returns-in_ok-rest-clause-ok c =
    let (k, d, read, took) = c.in_ok-rest.ensures.ok in
    let other : (first c.args.text.now == 91) ≡ false = grind (arith, common_steps) in
    ((k, key_value d), expression_pair c.args.text.now c.in_ok-rest.rest.now k d other read, took)

pub returns-in_ok-rest-2-clause-ok : goal.returns-in_ok-rest-2-clause-ok
returns-in_ok-rest-2-clause-ok c =
    let s = c.args.text.now in
    let h = c.in_ok-closing.ensures.ok in
    let one : (first s == 91) ≡ true = grind (arith, common_steps) in
    let two : (slice_index s 1 == 91) ≡ true = grind (arith, common_steps) in (
      (h.k, array_table),
      expression_array s c.in_ok-closing.closing.now c.in_ok-rest-2.rest.now h.k one two
          (rw c.skip.ensures.rest at h.is) c.in_ok-rest-2.ensures.value,
      record { items = h.items; section = h.section; sound = h.sound; odd = λ now. inl (sym h.odd ∙ now) },
    )

pub returns-in_ok-rest-3-clause-ok : goal.returns-in_ok-rest-3-clause-ok
returns-in_ok-rest-3-clause-ok c =
    let s = c.args.text.now in
    let h = c.in_ok-rest-3.ensures.ok in
    let one : (first s == 91) ≡ true = grind (arith, common_steps) in
    let two : (slice_index s 1 == 91) ≡ false = grind (arith, common_steps) in (
      (h.k, std_table),
      expression_table s c.in_ok-rest-3.rest.now h.k one two (rw c.skip-else-byte_at-eq91.ensures.rest at h.is),
      record { items = h.items; section = h.section; sound = h.sound; odd = λ now. inl (sym h.odd ∙ now) },
    )

pub returns-in_err-rest-clause-bad : goal.returns-in_err-rest-clause-bad
returns-in_err-rest-clause-bad c =
    let other : (first c.args.text.now == 91) ≡ false = grind (arith, common_steps) in
    refuses_err c.from_residual.result c.in_err-rest.field-0.0 _ c.from_residual.ensures.1 λ refused.
    expression_no_pair c.args.text.now other (c.in_err-rest.ensures.bad refused)

pub returns-in_err-closing-clause-bad : goal.returns-in_err-closing-clause-bad
returns-in_err-closing-clause-bad c =
    let s = c.args.text.now in
    let one : (first s == 91) ≡ true = grind (arith, common_steps) in
    let two : (slice_index s 1 == 91) ≡ true = grind (arith, common_steps) in
    refuses_err c.from_residual-in_err-closing.result c.in_err-closing.field-0.0 _
    c.from_residual-in_err-closing.ensures.1 λ refused.
    expression_no_array s one two (rw c.skip.ensures.rest at (c.in_err-closing.ensures.bad refused))

pub returns-in_err-rest-2-clause-bad : goal.returns-in_err-rest-2-clause-bad
returns-in_err-rest-2-clause-bad c =
    let s = c.args.text.now in
    let h = c.in_ok-closing.ensures.ok in
    let one : (first s == 91) ≡ true = grind (arith, common_steps) in
    let two : (slice_index s 1 == 91) ≡ true = grind (arith, common_steps) in
    refuses_err c.from_residual-in_err-rest-2.result c.in_err-rest-2.field-0.0 _
    c.from_residual-in_err-rest-2.ensures.1 λ refused.
    expression_open_array s c.in_ok-closing.closing.now h.k one two (rw c.skip.ensures.rest at h.is)
    (c.in_err-rest-2.ensures.value (not_memory _ refused))

pub returns-in_err-rest-3-clause-bad : goal.returns-in_err-rest-3-clause-bad
returns-in_err-rest-3-clause-bad c =
    let s = c.args.text.now in
    let one : (first s == 91) ≡ true = grind (arith, common_steps) in
    let two : (slice_index s 1 == 91) ≡ false = grind (arith, common_steps) in
    refuses_err c.from_residual-in_err-rest-3.result c.in_err-rest-3.field-0.0 _
    c.from_residual-in_err-rest-3.ensures.1 λ refused.
    expression_no_table s one two (rw c.skip-else-byte_at-eq91.ensures.rest at (c.in_err-rest-3.ensures.bad refused))
