use Rattle.sja_program.proofs.struck_plan.struck_in.Goals as goal

-- a plan that was read has texts
pub struck_text-requires : goal.struck_text-requires
struck_text-requires c = c.a_run_plan_has_texts.ensures c.args.bytes.now c.in_ok-plan.plan c.in_ok-plan.ensures.ok

-- the document is that of the plan that was read, with the strike more
pub returns-clause-ok : goal.returns-clause-ok
returns-clause-ok c =
    (c.in_ok-plan.plan, c.in_ok-plan.ensures.ok, rw c.into_bytes.ensures.value c.in_ok-text.ensures.ok)
