use Rattle.std.proofs.Common.{arith, [], Bor}
use Rattle.sja_plan_reading.specs.Words.{Text}
use Rattle.sja_plan_reading.proofs.Spelling.StrikeCounts.{count_more, few_enough, too_many}
use Rattle.sja_plan_reading.proofs.strike_count.strikes_are_few.Goals as goal

abbrev none_there : Bor Text
none_there = record { ref_ptr = (0, 0); now = [] }

pub returns-then-total-most : goal.returns-then-total-most
returns-then-total-most c =
    too_many c.args.texts.now c.loop-text.text-index c.loop-text.total c.in-Ok.count
    c.args.most none_there (omega (arith, c.loop-text-test.true))
    c.loop-text.invariant.total c.in-Ok.ensures.value c.if-total-most.true

pub loop-text-preserved : goal.loop-text-preserved
loop-text-preserved c =
    let more = count_more c.args.texts.now c.loop-text.text-index none_there (omega (arith, c.loop-text-test.true)) in
    record {
      total = omega (arith, more, c.loop-text.invariant.total, c.in-Ok.ensures.value);
      few = omega (arith, c.if-total-most.false);
    }

pub returns : goal.returns
returns c =
    few_enough c.args.texts.now c.loop-text.text-index c.loop-text.total c.args.most
    (omega (arith, c.loop-text-test.false)) c.loop-text.invariant.total c.loop-text.invariant.few
