use Rattle.text_svg.proofs.Lanes.{lane_texts}
use Rattle.text_svg.proofs.lane.Lane.put.Goals as goal

pub returns : goal.returns
returns c =
    lane_texts c.args.width c.args.node c.args.self.now _ _ _ _ _ _ _ _ _ c.as_str.ensures.value
    c.as_str-2.ensures.value c.as_str-3.ensures.value c.as_str-4.ensures.value c.as_str-5.ensures.value
    c.in_ok-put_head.ensures c.in_ok-put_bits.ensures c.in_ok-put_counters.ensures
