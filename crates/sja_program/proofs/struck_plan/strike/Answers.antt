use Rattle.sja_program.proofs.struck_plan.strike.Goals as goal

-- a plan that was read has texts
pub struck_text-requires : goal.struck_text-requires
struck_text-requires g c =
    let holds = c.in_ok-plan.ensures.ok in c.a_run_plan_has_texts.ensures holds.0 c.in_ok-plan.plan holds.2

-- the document is that of the plan that was read, with the strike more
pub returns-clause-ok : goal.returns-clause-ok
returns-clause-ok g c =
    let holds = c.in_ok-plan.ensures.ok in
    (holds.0, c.in_ok-plan.plan, holds.1, holds.2, rw c.into_bytes.ensures.value c.in_ok-text.ensures.ok)
