-- What each command asks for, by the values of its arguments (this project's own rule).
use Rattle.std.specs.Prelude.{◌&&◌, ◌∷◌, ℕ, Bool, List, [], length, Option, Some, None, codes, option_map, is_some}
use Rattle.std.specs.Prelude.{if◌then◌else◌, nat_lt, nat_le}
use Rattle.std.specs.Str.{bytes_eq}
use Rattle.clap.specs.Words.{Row, Text, all_of, first_of}
use Rattle.sja_command_line.specs.declared.plan_question.PlanQuestion.{PlanQuestion}
use Rattle.sja_command_line.specs.declared.plan_question.PlanQuestion.TheVariants as question
use Rattle.sja_command_line.specs.Values.{flag_in, number_or, optional_in, single_in}
use Rattle.sja_command_line.specs.Requests.{Request, request_about, filter, arbitrate, expected, files}
use Rattle.sja_command_line.specs.Sweeping.{sweep_in}

-- what `filter` asks for, by its four arguments, where they are there and the first is a mode
abbrev pub filter_in : Option Text → Option Text → Option Text → Option Text → Option Request
filter_in (Some mode) (Some acr) (Some amr) (Some digits) =
    option_map (λ single. filter single acr amr digits) (single_in mode)
filter_in (Some mode) (Some acr) (Some amr) None = None
filter_in (Some mode) (Some acr) None digits = None
filter_in (Some mode) None amr digits = None
filter_in None acr amr digits = None

-- what `arbitrate` asks for, by the values of its argument: there are one to eight of them
abbrev pub arbitrate_in : Option (List Text) → Option Request
arbitrate_in None = None
arbitrate_in (Some messages) =
    if nat_lt 0 (length messages) && nat_le (length messages) 8 then Some (arbitrate messages) else None

-- what `picture` asks of a plan, by the first and the last bit and the flags: where no bit is given from bit 0 on, and
-- up to the last bit of the run
abbrev pub picture_by : Option ℕ → Option (Option ℕ) → Bool → Bool → Bool → Option PlanQuestion
picture_by (Some first) (Some last) svg threads meant = Some (question.Picture first last svg threads meant)
picture_by (Some first) None svg threads meant = None
picture_by None last svg threads meant = None

abbrev pub picture_in : List Row → Option PlanQuestion
picture_in rows =
    picture_by (number_or 0 0 9999999 (first_of (codes "FROM") rows))
    (optional_in 9999999 (first_of (codes "TO") rows)) (flag_in (first_of (codes "svg") rows))
    (flag_in (first_of (codes "threads") rows)) (flag_in (first_of (codes "yes") rows))

-- the question that a subcommand of this name asks of plans for a text of a run, with threads or without
abbrev pub text_question : Text → Bool → Option PlanQuestion
text_question name threads =
    if bytes_eq name (codes "run") then Some (question.Report threads)
    else if bytes_eq name (codes "wave") then Some (question.Wave threads)
    else if bytes_eq name (codes "trace") then Some (question.Trace threads)
    else if bytes_eq name (codes "plan") then Some question.Plan
    else None

-- the name of the one file with a plan, or of the input where none is named
abbrev pub plan_named : Option (List Text) → Option Text
plan_named None = Some (codes "-")
plan_named (Some []) = None
plan_named (Some (name ∷ [])) = Some name
plan_named (Some (name ∷ other ∷ more)) = None

-- what `run --expect` asks for, by the file of the report and that of the plan
abbrev pub expected_by : Bool → Option Text → Option Text → Option Request
expected_by threads (Some report) (Some plan) = Some (expected threads plan report)
expected_by threads (Some report) None = None
expected_by threads None plan = None

abbrev pub expected_in : List Row → Option Request
expected_in rows =
    expected_by (flag_in (first_of (codes "threads") rows)) (first_of (codes "expect") rows)
    (plan_named (all_of (codes "FILE") rows))

-- the words are of `run --expect`
abbrev pub is_expected : Text → List Row → Bool
is_expected name rows = bytes_eq name (codes "run") && is_some (first_of (codes "expect") rows)

-- what `registers` asks of a plan, by the last bit that is run, if one is given
abbrev pub registers_in : List Row → Option PlanQuestion
registers_in rows = option_map (λ bit. question.Registers bit) (optional_in 9999999 (first_of (codes "B") rows))

-- the question that a subcommand of this name asks of plans, by the values of its arguments; none with `--expect`
abbrev pub question_in : Text → List Row → Option PlanQuestion
question_in name rows =
    if is_expected name rows then None
    else if bytes_eq name (codes "check") then Some (question.Check (flag_in (first_of (codes "strict") rows)))
    else if bytes_eq name (codes "frames") then
    Some (question.Frames (flag_in (first_of (codes "bits") rows)) (flag_in (first_of (codes "threads") rows)))
    else if bytes_eq name (codes "picture") then picture_in rows
    else if bytes_eq name (codes "candump") then
    Some (question.Candump (flag_in (first_of (codes "errors") rows)) (flag_in (first_of (codes "threads") rows)))
    else if bytes_eq name (codes "sweep") then sweep_in rows
    else if bytes_eq name (codes "registers") then registers_in rows
    else text_question name (flag_in (first_of (codes "threads") rows))

-- what a question asks for, by the names of files and the number of plans at one time: of each plan in the files that
-- are named, and of the plan on the input where none is named
abbrev pub plan_by : PlanQuestion → Option (List Text) → Option ℕ → Option Request
plan_by asked_of_each None jobs = Some (request_about asked_of_each)
plan_by asked_of_each (Some names) None = None
plan_by asked_of_each (Some names) (Some jobs) = Some (files asked_of_each jobs names)

-- by the values of its arguments
abbrev pub plan_in : PlanQuestion → List Row → Option Request
plan_in asked_of_each rows =
    plan_by asked_of_each (all_of (codes "FILE") rows) (number_or 1 1 64 (first_of (codes "jobs") rows))
