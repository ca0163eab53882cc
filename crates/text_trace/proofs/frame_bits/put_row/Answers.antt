use Rattle.text_trace.proofs.Stories.Heard.{row_heard, all_from, receives_at}
use Rattle.text_trace.proofs.frame_bits.put_row.Goals as goal

pub returns-then-take_inside-clause-goes : goal.returns-then-take_inside-clause-goes
returns-then-take_inside-clause-goes c = λ vs stand.
    let took = c.if-take_inside.true in
    row_heard c.args.reader.now c.take_inside.new.self c.pass_others-bus.result c.next_segment-segment.result
    c.next_segment-next.result c.args.bit (record {
      right = λ l h. (c.take_inside.ensures.exactly l h).0 took;
      stands = c.take_inside.ensures.takes took;
      inside = c.take_inside.ensures.inside took;
      near = c.take_inside.ensures.near;
    }) c.next_segment-segment.ensures c.next_segment-next.ensures c.args.node_traces.now vs
    c.pass_others-bus.new.node_traces
    c.hear_all.new.node_traces _ _ c.pass_others-bus.ensures.bus stand c.pass_others-bus.ensures.passes
    (c.hear_next.ensures c.if-hear_next.true) c.in_ok-hear_all.ensures.hears c.in_ok-hear_all.ensures.text

pub pass_from_all-requires : goal.pass_from_all-requires
pass_from_all-requires c =
    receives_at c.args.reader.now c.args.node_traces.now c.requires.0 c.pass_others-bus.new.node_traces c.requires.1
    c.pass_others-bus.ensures.passes

pub returns-clause-goes : goal.returns-clause-goes
returns-clause-goes c = λ vs stand. (
  all_from c.args.reader.now c.args.node_traces.now vs c.pass_others-bus.new.node_traces
      c.pass_from_all.new.node_traces stand
      c.pass_others-bus.ensures.passes c.pass_from_all.ensures,
  c.in_ok-put_bit.ensures.text,
)
