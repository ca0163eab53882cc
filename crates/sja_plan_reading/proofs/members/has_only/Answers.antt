use Rattle.std.proofs.Common.{rules, ◌≡◌, ◌∙◌, true, false}
use Rattle.std.specs.List.{list_all}
use Rattle.std.specs.Map.{keys_of}
use Rattle.sja_plan_reading.proofs.Spelling.Keys.{is_allowed, knows-entries}
use Rattle.sja_plan_reading.proofs.members.has_only.Goals as goal

pub returns : goal.returns
returns c =
    let all : true ≡ list_all (is_allowed c.args.allowed.now) (keys_of c.args.table.now.entries) = search rules in
    all ∙ knows-entries c.args.allowed.now c.args.table.now.entries

pub returns-then-not-allows : goal.returns-then-not-allows
returns-then-not-allows c =
    let all : false ≡ list_all (is_allowed c.args.allowed.now) (keys_of c.args.table.now.entries) = search rules in
    all ∙ knows-entries c.args.allowed.now c.args.table.now.entries
