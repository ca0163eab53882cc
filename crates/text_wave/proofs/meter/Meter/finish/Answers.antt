use Rattle.text_wave.proofs.BitByBit.Reading.{finish_first, finish_next, finish_last}
use Rattle.text_wave.proofs.meter.Meter.finish.Goals as goal

pub loop-self-init : goal.loop-self-init
loop-self-init c = finish_first c.args.self.now c.requires

pub loop-self-preserved : goal.loop-self-preserved
loop-self-preserved c =
    finish_next c.args.self.now c.loop-self.self c.advance.new.self c.loop-self.invariant c.advance.ensures

pub loop-self-smaller : goal.loop-self-smaller
loop-self-smaller c = c.advance.ensures.fewer c.loop-self-test.true c.loop-self.invariant.reading

pub returns : goal.returns
returns c = finish_last c.args.self.now c.loop-self.self c.loop-self.invariant c.loop-self-test.false
