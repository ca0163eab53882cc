use Rattle.std.proofs.Common.{rules, ◌≡◌, true, false, sym, ◌∙◌, string_bytes}
use Rattle.toml_parser.specs.Strings.{starts_string}
use Rattle.toml.specs.Data.{string}
use Rattle.toml.specs.Parse.{atom, scalar_data}
use Rattle.sja_plan_reading.proofs.ReadLines.{atom_string, atom_scalar}
use Rattle.sja_plan_reading.proofs.tables.values.pass_atom.Goals as goal

pub returns-in_ok-rest-clause-value : goal.returns-in_ok-rest-clause-value
returns-in_ok-rest-clause-value c =
    let starts : starts_string c.args.text.now ≡ true = sym c.starts_string.ensures ∙ c.if-starts_string.true in
    let s = string_bytes c.in_ok-rest.field-0-0 in
    (string s, atom_string c.args.text.now c.in_ok-rest.rest.now s starts c.in_ok-rest.ensures.value)

pub returns-in_ok-rest-2-clause-value : goal.returns-in_ok-rest-2-clause-value
returns-in_ok-rest-2-clause-value c =
    let starts : starts_string c.args.text.now ≡ false = sym c.starts_string.ensures ∙ c.if-starts_string.false in (
      scalar_data c.in_ok-rest-2.field-0-0,
      atom_scalar c.args.text.now c.in_ok-rest-2.rest.now c.in_ok-rest-2.field-0-0 starts c.in_ok-rest-2.ensures.value,
    )

pub returns-in_err-rest-clause-bad : goal.returns-in_err-rest-clause-bad
unfolding atom
returns-in_err-rest-clause-bad c = search rules

pub returns-in_err-rest-2-clause-bad : goal.returns-in_err-rest-2-clause-bad
unfolding atom
returns-in_err-rest-2-clause-bad c = search rules
