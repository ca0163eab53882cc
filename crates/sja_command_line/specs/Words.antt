-- What words ask for (this project's own rule).
use Rattle.std.specs.Prelude.{◌≡◌, List, [], Option, Some, None, codes, option_map, if◌then◌else◌}
use Rattle.std.specs.Str.{bytes_eq}
use Rattle.clap.specs.Words.{Kinds, Row, Text, all_of, fault_of, first_of, subcommand_of}
use Rattle.sja_command_line.specs.declared.plan_question.PlanQuestion.{PlanQuestion}
use Rattle.sja_command_line.specs.CommandLine.{sja_app}
use Rattle.sja_command_line.specs.Requests.{Request, encode, decode, message, live}
use Rattle.sja_command_line.specs.Commands.{filter_in, arbitrate_in, expected_in, question_in, plan_in}

-- what a subcommand asks for that takes no files, by its name and the values of its arguments
abbrev pub other_by : Text → List Row → Option Request
other_by name rows =
    if bytes_eq name (codes "encode") then option_map encode (first_of (codes "MESSAGE") rows)
    else if bytes_eq name (codes "decode") then option_map decode (first_of (codes "LINE") rows)
    else if bytes_eq name (codes "filter") then
    filter_in (first_of (codes "MODE") rows) (first_of (codes "ACR") rows)
    (first_of (codes "AMR") rows) (first_of (codes "MESSAGE") rows)
    else if bytes_eq name (codes "arbitrate") then arbitrate_in (all_of (codes "MESSAGE") rows)
    else if bytes_eq name (codes "message") then option_map message (first_of (codes "TEXT") rows)
    else if bytes_eq name (codes "run") then expected_in rows
    else if bytes_eq name (codes "live") then Some live
    else None

-- what a subcommand asks for, by the question that it asks of plans
abbrev pub asked_by : Option PlanQuestion → Text → List Row → Option Request
asked_by (Some asked_of_each) name rows = plan_in asked_of_each rows
asked_by None name rows = other_by name rows

-- what a subcommand asks for, by its name and the values of its arguments
abbrev pub request_by : Text → List Row → Option Request
request_by name rows = asked_by (question_in name rows) name rows

-- what the subcommand that was found asks for
abbrev pub request_in : Option (Text × List Row) → Option Request
request_in None = None
request_in (Some (name, rows)) = request_by name rows

-- why the parser refuses the words: the empty list where it takes them
unfoldable pub faults : List Text → Kinds
faults words = fault_of sja_app words

-- what the subcommand that the parser finds in the words asks for
unfoldable pub asked : List Text → Option Request
asked words = request_in (subcommand_of sja_app words)

-- the words, the program's name first, parse as this request
pub record ParsesAs (words : List Text) (r : Request) : Type 0 where
  pub taken : faults words ≡ []
  pub asks : asked words ≡ Some r
