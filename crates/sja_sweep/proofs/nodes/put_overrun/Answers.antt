use Rattle.sja_sweep.proofs.nodes.put_overrun.Goals as goal

pub returns : goal.returns
returns c =
    rw (c.as_slice.ensures.value, c.as_slice-2.ensures.value, c.as_str.ensures.value, c.in_ok-of.ensures.ok)
    at c.in_ok-put_list.ensures
