use Rattle.std.proofs.Common.{◌≡◌, ◌<◌, ◌≤◌, length, rules}
use Rattle.sja_plan.specs.Limits.{most_strikes}
use Rattle.sja_plan.specs.Plan.{times_in}
use Rattle.sja_plan.specs.Struck.{struck_at}
use Rattle.sja_program.proofs.PlanAnswers.PlanRefusals.{long_refused_if, struck_text_is}
use Rattle.sja_program.proofs.struck_plan.struck_text.Goals as goal

-- the text is that of the plan with the strike more
pub returns-in-Ok-clause-ok : goal.returns-in-Ok-clause-ok
returns-in-Ok-clause-ok c =
    let there : c.args.node < length c.args.plan.now.nodes = search rules in
    let is : c.in-Ok.struck ≡ struck_at c.args.plan.now c.args.node c.args.bit = search rules in
    struck_text_is c.document.result c.args.node c.args.bit c.args.plan.now _ there is c.document.ensures.ok

-- or that text is too long, and nothing else is wrong
pub returns-in-Ok-clause-err : goal.returns-in-Ok-clause-err
returns-in-Ok-clause-err c =
    let there : c.args.node < length c.args.plan.now.nodes = search rules in
    let low : c.args.bit ≤ 9999999 = search rules in
    let room : times_in c.args.plan.now.strikes < most_strikes c.args.plan.now.version = search rules in
    let is : c.in-Ok.struck ≡ struck_at c.args.plan.now c.args.node c.args.bit = search rules in
    long_refused_if c.document.result c.args.node c.args.bit c.args.plan.now _ there low room is
    c.document.ensures.err
