-- What is read of a command with the arguments of a row more, and with the commands of the table more.
use Rattle.std.proofs.Common.{◌≡◌, ◌∙◌, ◌<◌, ◌≤◌, ◌+◌, ℕ, List, Result, Ok, Err, ap, drop, false, get_or, length, refl}
use Rattle.std.proofs.Common.{sym}
use Rattle.std.specs.Prelude.{IfOk}
use Rattle.std.proofs.lemmas.List.{at_drop_all, at_drop_more}
use Rattle.clap.specs.Words.{AddsArg, AddsSubcommand, App, app_of, with_rule, with_subcommand}
use Rattle.clap.specs.declared.builder.arg.Arg.{Arg}
use Rattle.clap.specs.declared.builder.command.Command.{Command}
use Rattle.clap.specs.declared.builder.command.Command.TheViews.{out-Command}
use Rattle.sja_command_line.specs.CommandLine.{and_app, and_rule}
use Rattle.sja_command_line.specs.Inside.Parser.{IsHeld, IsReadAs}
use Rattle.sja_command_line.specs.Inside.Table.{app_in, rule_in, with_apps, with_rules}
use Rattle.sja_command_line.specs.declared.argument_row.ArgumentRow.{ArgumentRow}
use Rattle.sja_command_line.specs.declared.command_row.CommandRow.{CommandRow}

-- with what is left of the rows, from this one on, the command is the whole one
abbrev pub IsLeft : {Row : Type 0} → (App → List Row → App) → Command → List Row → ℕ → App → Type 0
IsLeft with_rows command rows i whole =
    (with_rows (app_of command) (drop i rows) ≡ whole) × ((out-Command command).has_globals ≡ false)

-- one argument more
pub next_rule : (old new : Command) (a : Arg) (rows : List ArgumentRow) (i : ℕ) (d : ArgumentRow) (whole : App) →
    i < length rows → AddsArg old a new → IsReadAs a (rule_in (get_or rows i d)) →
    IsLeft with_rules old rows i whole → IsLeft with_rules new rows (i + 1) whole
unfolding IsReadAs and_rule
next_rule old new a rows i d whole less adds reads left =
    let shape : app_of new ≡ and_rule (app_of old) (rule_in (get_or rows i d)) =
    adds.shape reads.1 ∙ ap (with_rule (app_of old)) reads.0 in (
      ap (λ app. with_rules app (drop (i + 1) rows)) shape
          ∙ sym (at_drop_more (with_rules (app_of old)) rows i d less) ∙ left.0,
      adds.globals ∙ rw (left.1, reads.1) refl,
    )

-- one command more
pub next_app : (old new sub : Command) (rows : List CommandRow) (i : ℕ) (d : CommandRow) (whole : App) →
    i < length rows → AddsSubcommand old sub new → IsHeld sub (app_in (get_or rows i d)) →
    IsLeft with_apps old rows i whole → IsLeft with_apps new rows (i + 1) whole
unfolding IsHeld and_app
next_app old new sub rows i d whole less adds held left =
    let shape : app_of new ≡ and_app (app_of old) (app_in (get_or rows i d)) =
    adds.shape held.1 ∙ ap (λ (app : App). with_subcommand (app_of old) app.top) held.0 in (
      ap (λ app. with_apps app (drop (i + 1) rows)) shape
          ∙ sym (at_drop_more (with_apps (app_of old)) rows i d less) ∙ left.0,
      adds.globals ∙ rw (left.1, held.1) refl,
    )

-- nothing is left
pub rules_done : (command : Command) (rows : List ArgumentRow) (i : ℕ) (whole : App) → length rows ≤ i →
    IsLeft with_rules command rows i whole → IsHeld command whole
unfolding IsHeld
rules_done command rows i whole all left =
    (sym (at_drop_all (with_rules (app_of command)) rows i all) ∙ left.0, left.1)

pub apps_done : (command : Command) (rows : List CommandRow) (i : ℕ) (whole : App) → length rows ≤ i →
    IsLeft with_apps command rows i whole → app_of command ≡ whole
apps_done command rows i whole all left = sym (at_drop_all (with_apps (app_of command)) rows i all) ∙ left.0

-- what is read of it is what the table gives
pub whole_read : {E : Type 0} (made : Result Command E) (app whole : App) →
    IfOk made (λ command. app_of command ≡ app) → app ≡ whole → IfOk made (λ command. app_of command ≡ whole)
whole_read (Ok command) app whole read is = read ∙ is
whole_read (Err e) app whole read is = tt
