use Rattle.std.proofs.Common.{refl}
use Rattle.sja_replay.proofs.Listed.Coming.{came_first}
use Rattle.text_wave.proofs.meter.Meter.of.Goals as goal

pub returns : goal.returns
returns c = record {
  come = (came_first _ _ c.of.ensures.at c.of.ensures.left, refl);
  after = c.new-3.ensures;
}
