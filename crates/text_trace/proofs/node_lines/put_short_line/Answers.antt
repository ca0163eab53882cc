use Rattle.text_trace.proofs.node_lines.put_short_line.Goals as goal

pub returns : goal.returns
returns c = rw c.bit_event_of.ensures at c.put_event_line.ensures
