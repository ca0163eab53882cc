use Rattle.toml_parser.specs.Lexical.{skip_ws}
use Rattle.toml.specs.Parse.{ends_line}
use Rattle.sja_plan_reading.proofs.ReadLines.{line_is, ends_if}
use Rattle.sja_plan_reading.proofs.Refusals.{refuses_err, not_memory}
use Rattle.sja_plan_reading.proofs.RefusedTexts.{line_none, line_goes_on}
use Rattle.sja_plan_reading.proofs.tables.reading.read_line.Goals as goal

pub returns-clause-ok : goal.returns-clause-ok
returns-clause-ok c =
    let (e, read, took) = c.in_ok-rest.ensures.ok in
    let rest = c.in_ok-rest.rest.now in (
      e,
      line_is c.args.text.now rest e read (ends_if (ends_line (skip_ws rest)) rest c.in_ok-line_end.field-0.now
          c.in_ok-line_end.ensures),
      took,
    )

pub returns-in_err-rest-clause-bad : goal.returns-in_err-rest-clause-bad
returns-in_err-rest-clause-bad c =
    refuses_err c.from_residual.result c.in_err-rest.field-0.0 _ c.from_residual.ensures.1 λ refused.
    line_none c.args.text.now (c.in_err-rest.ensures.bad refused)

pub returns-in_err-line_end-clause-bad : goal.returns-in_err-line_end-clause-bad
returns-in_err-line_end-clause-bad c =
    let (e, read, took) = c.in_ok-rest.ensures.ok in
    refuses_err c.from_residual-in_err-line_end.result c.in_err-line_end.field-0.0 _
    c.from_residual-in_err-line_end.ensures.1 λ refused.
    line_goes_on c.args.text.now c.in_ok-rest.rest.now e read (c.in_err-line_end.ensures (not_memory _ refused))
