use Rattle.sja_program.proofs.plan_document.spelled.Goals as goal

-- a plan that was read has texts
pub document-requires : goal.document-requires
document-requires c = c.a_run_plan_has_texts.ensures c.args.bytes.now c.in_ok-plan.plan c.in_ok-plan.ensures.ok

-- the text is that of the plan
pub returns-clause-ok : goal.returns-clause-ok
returns-clause-ok c =
    (c.in_ok-plan.plan, c.in_ok-plan.ensures.ok, rw c.into_bytes.ensures.value c.in_ok-text.ensures.ok)
