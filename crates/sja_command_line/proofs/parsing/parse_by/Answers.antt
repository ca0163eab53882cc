use Rattle.std.proofs.Common.{map}
use Rattle.std.proofs.lemmas.Result.{IfOk-weaker}
use Rattle.sja_command_line.proofs.Requests.Parses.{answered, asked_request, refused_request, taken_request}
use Rattle.sja_command_line.proofs.parsing.parse_by.Goals as goal

pub returns-in-Ok-clause-ok : goal.returns-in-Ok-clause-ok
returns-in-Ok-clause-ok g c =
    let words = map g.S.AsStr.text c.args.words.now in
    let parsed = c.try_get_matches_from in
    let answer = answered _ words parsed.result c.requires parsed.ensures.matches parsed.ensures.kinds in
    IfOk-weaker _ _ _ (λ task found. taken_request words parsed.result c.in-Ok.matches _ c.in-Ok.is answer found)
    c.task_in.ensures.ok

pub returns-in-Ok-clause-refused : goal.returns-in-Ok-clause-refused
returns-in-Ok-clause-refused g c =
    let words = map g.S.AsStr.text c.args.words.now in
    let parsed = c.try_get_matches_from in
    let answer = answered _ words parsed.result c.requires parsed.ensures.matches parsed.ensures.kinds in
    λ r parses. c.task_in.ensures.refused r
    (asked_request words parsed.result c.in-Ok.matches r c.in-Ok.is answer parses)

pub returns-in-Err-clause-refused : goal.returns-in-Err-clause-refused
returns-in-Err-clause-refused g c =
    let words = map g.S.AsStr.text c.args.words.now in
    let parsed = c.try_get_matches_from in
    let answer = answered _ words parsed.result c.requires parsed.ensures.matches parsed.ensures.kinds in
    λ r parses. c.fault_in.ensures
    (refused_request words parsed.result c.in-Err.error r c.in-Err.is answer parses)
