use Rattle.std.proofs.Common.{rules}
use Rattle.sja_live.proofs.Replies.Asked.{told_plan, told_no_end, not_plan, spelled_plan}
use Rattle.sja_live.proofs.answering.plan_answer.Goals as goal

pub plan_text-requires : goal.plan_text-requires
plan_text-requires c =
    spelled_plan c.args.session.now c.in-Ok.plan c.in-Ok.ensures.plan c.limits.ensures c.requires

pub returns-in-Ok-plan_text : goal.returns-in-Ok-plan_text
returns-in-Ok-plan_text c =
    told_plan c.args.session.now c.in-Ok.plan c.in-Ok-plan_text.document c.in-Ok.ensures.end c.in-Ok.ensures.plan
    c.in-Ok-plan_text.ensures.ok

pub returns-in-Err-TooLong : goal.returns-in-Err-TooLong
returns-in-Err-TooLong c =
    not_plan c.args.session.now c.in-Ok.plan _ c.in-Ok.ensures.end c.in-Ok.ensures.plan c.in-Err-TooLong.ensures.err
    (search rules)

pub returns-in-Err-Endless : goal.returns-in-Err-Endless
returns-in-Err-Endless c =
    told_no_end c.args.session.now c.in-Err-Endless.field-0 c.in-Err-Endless.ensures.err (search rules)
