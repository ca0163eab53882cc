use Rattle.text_trace.proofs.SoFar.Lines.{event_written}
use Rattle.text_trace.proofs.node_lines.put_event_line.Goals as goal

pub returns : goal.returns
returns c =
    event_written c.args.bit c.args.node _ _ _ _ _ c.in_ok-tell.ensures.text c.in_ok-tell.ensures.begun
    c.in_ok-put_line.ensures
