use Rattle.text_trace.proofs.causes.put_dominance.Goals as goal

pub returns : goal.returns
returns c = rw (c.flag_name.ensures, c.dominance_rule.ensures) at c.write.ensures.bytes
