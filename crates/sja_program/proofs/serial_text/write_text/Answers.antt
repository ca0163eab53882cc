use Rattle.sja_program.proofs.serial_text.write_text.Goals as goal

-- the text is that of a run of the plan that was read
pub returns-clause-ok : goal.returns-clause-ok
returns-clause-ok g c =
    let read = c.in_ok-plan.ensures.ok in (read.0, c.in_ok-plan.plan, read.1, read.2, c.in_ok-text.ensures.ok)
