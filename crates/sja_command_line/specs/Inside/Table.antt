-- What the parser reads of the rows of the table of commands (this project's own rule).
use Rattle.std.specs.Prelude.{List, [], ◌∷◌, Some, length, true}
use Rattle.clap.specs.Lexer.{usize_max}
use Rattle.clap.specs.Words.{App, Rule, Text, new_rule}
use Rattle.clap.specs.declared.builder.action.ArgAction.{ArgAction}
use Rattle.clap.specs.declared.builder.action.ArgAction.TheVariants as action
use Rattle.clap.specs.declared.builder.value_parser.ValueParser.TheVariants.{Unsigned}
use Rattle.sja_command_line.specs.CommandLine.{and_app, and_rule, bare_app}
use Rattle.sja_command_line.specs.declared.argument_row.ArgumentRow.{ArgumentRow}
use Rattle.sja_command_line.specs.declared.command_row.CommandRow.{CommandRow}
use Rattle.sja_command_line.specs.declared.takes.Takes.{Takes}
use Rattle.sja_command_line.specs.declared.takes.Takes.TheVariants.{Texts, File, Files, Bit, Nothing, Named, Numbers}
use Rattle.sja_command_line.specs.declared.takes.Takes.TheVariants as what

-- an argument of this name that does this with what it takes
abbrev pub taking_rule : Text → ArgAction → Rule
taking_rule name act = record (new_rule name) { action = Some act }

-- an argument of this name, by what it takes
abbrev pub rule_by : Text → Takes → Rule
rule_by name what.Text = record (new_rule name) { required = true; action = Some action.Set }
rule_by name Texts = record (new_rule name) {
  required = true;
  action = Some action.Set;
  range = Some (record { start_inclusive = 1; end_inclusive = 8 });
}
rule_by name File = taking_rule name action.Set
rule_by name Files = record (new_rule name) {
  action = Some action.Append;
  range = Some (record { start_inclusive = 1; end_inclusive = usize_max });
}
rule_by name Bit = record (new_rule name) { action = Some action.Set; parser = Some (Unsigned 0 9999999) }
rule_by name Nothing = record (new_rule name) { long = Some name; action = Some action.SetTrue }
rule_by name (Named names) = record (new_rule name) {
  long = Some name;
  action = Some action.Set;
  value_names = length names.now;
}
rule_by name (Numbers names least most) = record (new_rule name) {
  long = Some name;
  action = Some action.Set;
  value_names = length names.now;
  parser = Some (Unsigned least most);
}

-- the argument of a row
abbrev pub rule_in : ArgumentRow → Rule
rule_in row = rule_by row.name.now row.takes

-- a command with these arguments more
abbrev pub with_rules : App → List ArgumentRow → App
with_rules app [] = app
with_rules app (row ∷ rows) = with_rules (and_rule app (rule_in row)) rows

-- the command of a row
abbrev pub app_in : CommandRow → App
app_in row = with_rules (bare_app row.name.now) row.arguments.now

-- a command with these commands of its own more
abbrev pub with_apps : App → List CommandRow → App
with_apps app [] = app
with_apps app (row ∷ rows) = with_apps (and_app app (app_in row)) rows
