use Rattle.std.proofs.Common.{◌+◌, arith, sym, subst}
use Rattle.text_frames.specs.FrameStories.{values_of}
use Rattle.sja_placed_strikes.specs.Inside.Searching.{IsEarliest}
use Rattle.sja_placed_strikes.proofs.Gathers.{earliest_more}
use Rattle.sja_placed_strikes.proofs.aims.earliest.Goals as goal

pub loop-index-preserved : goal.loop-index-preserved
loop-index-preserved c =
    subst (IsEarliest (values_of c.args.found.now) c.args.bits c.args.aims.now (c.loop-index.index + 1))
    (sym c.earlier-first.ensures)
    (earliest_more (values_of c.args.found.now) c.args.bits c.args.aims.now c.loop-index.index _
    (omega (arith, c.loop-index-test.true)) c.loop-index.first c.bit_at.result c.loop-index.invariant c.bit_at.ensures)
