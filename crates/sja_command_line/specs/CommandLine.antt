-- The command line of `sja`, as the parser's own description of commands (this project's own rule).
use Rattle.std.specs.Prelude.{ℕ, codes, true, Some}
use Rattle.clap.specs.Lexer.{usize_max}
use Rattle.clap.specs.Words.{App, Rule, Text, new_app, new_rule, with_rule, with_subcommand}
use Rattle.clap.specs.declared.builder.action.ArgAction.TheVariants.{Append, Set, SetTrue}
use Rattle.clap.specs.declared.builder.value_parser.ValueParser.TheVariants.{Unsigned}

-- a command of this name, which has no argument and no command of its own
unfoldable pub bare_app : Text → App
bare_app name = new_app name

-- with one argument more
unfoldable pub and_rule : App → Rule → App
and_rule app rule = with_rule app rule

-- with one command of its own more, which has none itself
unfoldable pub and_app : App → App → App
and_app app own = with_subcommand app own.top

-- an argument without a flag, which must be given and takes one text
unfoldable pub text_rule : Text → Rule
text_rule id = record (new_rule id) { required = true; action = Some Set }

-- a command with one such argument
unfoldable pub text_app : Text → Text → App
text_app name id = and_rule (bare_app name) (text_rule id)

-- `filter MODE ACR AMR MESSAGE`. That MODE is `single` or `dual` is judged after the parser
unfoldable pub filter_app : App
filter_app =
    and_rule
    (and_rule
    (and_rule
    (text_app (codes "filter") (codes "MODE"))
    (text_rule (codes "ACR")))
    (text_rule (codes "AMR")))
    (text_rule (codes "MESSAGE"))

-- `MESSAGE..`, one to eight messages
unfoldable pub messages_rule : Rule
messages_rule =
    record (text_rule (codes "MESSAGE")) { range = Some (record { start_inclusive = 1; end_inclusive = 8 }) }

-- `arbitrate MESSAGE..`, with one to eight messages
unfoldable pub arbitrate_app : App
arbitrate_app = and_rule (bare_app (codes "arbitrate")) messages_rule

-- a command of which one subcommand has to be given, and which has a version: so it takes `--version` and `-V` itself
unfoldable pub empty_app : App
empty_app =
    let a = new_app (codes "sja") in
    record a { top = record a.top { subcommand_required = true; has_version = true } }

-- the commands over one line: `encode MESSAGE` and `decode LINE`
unfoldable pub line_app : App
line_app =
    and_app
    (and_app empty_app (text_app (codes "encode") (codes "MESSAGE")))
    (text_app (codes "decode") (codes "LINE"))

-- those and the commands over frames: `filter MODE ACR AMR MESSAGE` and `arbitrate MESSAGE..`
unfoldable pub frame_app : App
frame_app = and_app (and_app line_app filter_app) arbitrate_app

-- those and the command over a message's two forms: `message TEXT`
unfoldable pub notation_app : App
notation_app = and_app frame_app (text_app (codes "message") (codes "TEXT"))

-- a flag of this name, which stands or doesn't
unfoldable pub flag_rule : Text → Rule
flag_rule name = record (new_rule name) { long = Some name; action = Some SetTrue }

-- a command of this name, with or without `--threads`
unfoldable pub threads_app : Text → App
threads_app name = and_rule (bare_app name) (flag_rule (codes "threads"))

-- `live`, which has no arguments
unfoldable pub live_app : App
live_app = bare_app (codes "live")

-- an option of this name, which takes a number in decimal digits, from the least to the most one
unfoldable pub number_rule : Text → ℕ → ℕ → Rule
number_rule name least most = record (new_rule name) {
  long = Some name;
  action = Some Set;
  value_names = 1;
  parser = Some (Unsigned least most);
}

-- `FILE..`, an argument without a flag, which takes any number of texts, or isn't given
unfoldable pub files_rule : Rule
files_rule = record (new_rule (codes "FILE")) {
  action = Some Append;
  range = Some (record { start_inclusive = 1; end_inclusive = usize_max });
}

-- `FILE`, an argument without a flag, which takes one text, or isn't given
unfoldable pub file_rule : Rule
file_rule = record (new_rule (codes "FILE")) { action = Some Set }

-- a command of this name with `FILE..`, with or without `--threads` and `--jobs N`
unfoldable pub plans_app : Text → App
plans_app name = and_rule (and_rule (threads_app name) files_rule) (number_rule (codes "jobs") 1 64)

-- an option of this name, which takes a text
unfoldable pub named_rule : Text → Rule
named_rule name = record (new_rule name) { long = Some name; action = Some Set; value_names = 1 }

-- `run FILE..`, with `--expect FILE` or without
unfoldable pub run_app : App
run_app = and_rule (plans_app (codes "run")) (named_rule (codes "expect"))

-- `check FILE..`, with or without `--jobs N` and `--strict`
unfoldable pub check_app : App
check_app =
    and_rule
    (and_rule (and_rule (bare_app (codes "check")) files_rule) (number_rule (codes "jobs") 1 64))
    (flag_rule (codes "strict"))

-- `trace FILE`, with or without `--threads`
unfoldable pub trace_app : App
trace_app = and_rule (threads_app (codes "trace")) file_rule

-- `frames FILE..`, with `--bits` or without
unfoldable pub frames_app : App
frames_app = and_rule (plans_app (codes "frames")) (flag_rule (codes "bits"))

-- `plan FILE`
unfoldable pub spelled_app : App
spelled_app = and_rule (bare_app (codes "plan")) file_rule

-- an argument without a flag, which may be given and takes the number of a bit in decimal digits
unfoldable pub bit_rule : Text → Rule
bit_rule id = record (new_rule id) { action = Some Set; parser = Some (Unsigned 0 9999999) }

-- `picture`, with the first and the last bit, or without, and with or without `--svg`, `--threads` and `--yes`
unfoldable pub drawn_app : App
drawn_app =
    and_rule
    (and_rule
    (and_rule
    (and_rule
    (and_rule
    (bare_app (codes "picture"))
    (bit_rule (codes "FROM")))
    (bit_rule (codes "TO")))
    (flag_rule (codes "svg")))
    (flag_rule (codes "threads")))
    (flag_rule (codes "yes"))

-- with `FILE` behind both bits
unfoldable pub picture_app : App
picture_app = and_rule drawn_app file_rule

-- `candump FILE..`, with or without `--errors`, `--threads` and `--jobs N`
unfoldable pub candump_app : App
candump_app =
    and_rule
    (and_rule
    (and_rule (and_rule (bare_app (codes "candump")) (flag_rule (codes "errors"))) (flag_rule (codes "threads")))
    files_rule)
    (number_rule (codes "jobs") 1 64)

-- `--plan K B`, which takes two of them, as many digits as the texts of strikes have
unfoldable pub strike_rule : Rule
strike_rule = record (number_rule (codes "plan") 0 9999999) { value_names = 2 }

-- `sweep`, with the node, the bits and the pairs of bits that are struck
unfoldable pub struck_app : App
struck_app =
    and_rule
    (and_rule
    (and_rule
    (and_rule
    (bare_app (codes "sweep"))
    (number_rule (codes "only") 0 7))
    (number_rule (codes "from") 0 9999999))
    (number_rule (codes "to") 0 9999999))
    (number_rule (codes "pairs") 0 9999999)

-- with the kinds of outcome that are told
unfoldable pub kinds_app : App
kinds_app =
    and_rule
    (and_rule
    (and_rule
    (and_rule
    struck_app
    (flag_rule (codes "changed")))
    (flag_rule (codes "twice")))
    (flag_rule (codes "lost")))
    (flag_rule (codes "stuck"))

-- with rows in place of lines, and whether so many are meant
unfoldable pub told_app : App
told_app =
    and_rule
    (and_rule
    kinds_app
    (flag_rule (codes "rows")))
    (flag_rule (codes "yes"))

-- with the number of threads, `--plan K B` and `FILE`
unfoldable pub sweep_app : App
sweep_app = and_rule (and_rule (and_rule told_app (number_rule (codes "jobs") 1 64)) strike_rule) file_rule

-- `registers B FILE`
unfoldable pub registers_app : App
registers_app = and_rule (and_rule (bare_app (codes "registers")) (bit_rule (codes "B"))) file_rule

-- those and the commands over the run of a plan: `run` and `wave`
unfoldable pub plan_app : App
plan_app =
    and_app (and_app notation_app run_app) (plans_app (codes "wave"))

-- those and the commands over what happened in it: `trace` and `frames`
unfoldable pub story_app : App
story_app =
    and_app (and_app plan_app trace_app) frames_app

-- those and the commands that draw it and list what was received: `picture` and `candump`
unfoldable pub view_app : App
view_app = and_app (and_app story_app picture_app) candump_app

-- those and the commands that judge it: `check` and `sweep`
unfoldable pub judge_app : App
judge_app = and_app (and_app view_app check_app) sweep_app

-- the whole: those, `registers`, `plan` and `live`
unfoldable pub sja_app : App
sja_app = and_app (and_app (and_app judge_app registers_app) spelled_app) live_app
