use Rattle.can_bits.specs.Inside.FrameParts.{is_stuff_next}
use Rattle.can_bits.proofs.shift.Shift.next_segment.Goals as goal

pub returns : goal.returns
returns c l h right = (is_stuff_next c.args.self.now, c.segment_here.ensures l h right)
