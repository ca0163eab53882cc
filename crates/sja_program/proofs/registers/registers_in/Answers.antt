use Rattle.sja_program.proofs.registers.registers_in.Goals as goal

-- the text is that of the plan that the bytes are
pub returns-clause-ok : goal.returns-clause-ok
returns-clause-ok c = (c.in_ok-plan.plan, c.in_ok-plan.ensures.ok, c.in_ok-text.ensures.ok)
