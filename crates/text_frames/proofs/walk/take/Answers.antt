use Rattle.std.proofs.Common.{sym, ◌∙◌}
use Rattle.text_frames.proofs.FrameLines.Shorts.{short_keeps}
use Rattle.text_frames.proofs.walk.take.Goals as goal

pub returns-then-belongs_short : goal.returns-then-belongs_short
returns-then-belongs_short c =
    short_keeps c.args.node c.args.found.now.items c.args.frame c.take_short.new.self c.args.bit.now c.args.number
    (sym c.belongs_short.ensures ∙ c.if-belongs_short.true) c.in_ok-take_short.ensures
