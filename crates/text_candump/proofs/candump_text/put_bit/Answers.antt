use Rattle.std.proofs.Common.{arith}
use Rattle.text_report.proofs.WrittenLines.Written.{numbered_next, numbered_end}
use Rattle.text_candump.specs.Inside.CandumpProgress.{hand_lines}
use Rattle.text_candump.proofs.candump_text.put_bit.Goals as goal

pub loop-bits-preserved : goal.loop-bits-preserved
loop-bits-preserved c = record {
  text = numbered_next (hand_lines c.args.errors c.args.bit) c.args.all.now c.loop-bits.bits-index
      c.loop-bits.number c.bits-item.result _ _ _ c.loop-bits-test.true c.bits-item.is
      c.in_ok-put_node.ensures c.loop-bits.invariant.text;
  number = let n = c.loop-bits.invariant.number in omega (arith, n);
}

pub returns : goal.returns
returns c =
    numbered_end (hand_lines c.args.errors c.args.bit) c.args.all.now c.loop-bits.bits-index
    c.loop-bits.number _ _ c.loop-bits-test.false c.loop-bits.invariant.text
