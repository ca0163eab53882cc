use Rattle.sja_program.proofs.registers.told_of.Goals as goal

pub returns : goal.returns
returns c =
    (c.in_ok-rows.rows.items, c.in_ok-rows.ensures, cc (c.in_ok-text.ensures, c.as_slice.ensures.value))
