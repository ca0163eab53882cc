use Rattle.std.proofs.Common.{◌+◌, Bool, string_bytes, refl, subst, arith}
use Rattle.text_trace.specs.Inside.Reading.{HaveToldBits}
use Rattle.text_trace.specs.Inside.Reading.TellsBits.{none}
use Rattle.text_trace.proofs.Stories.Heard.{marked_stand, told_on, one_left}
use Rattle.text_trace.proofs.frame_bits.put_bits.Goals as goal

pub loop-reads-init : goal.loop-reads-init
loop-reads-init c = record {
  more = λ reads. c.requires.some;
  some = λ over. cc;
  most = omega arith;
  told = (
    c.args.node_traces.now,
    none,
    marked_stand c.reader_of-reader.result c.args.node_traces.now c.mark_all.new.node_traces c.mark_all.ensures,
  );
}

pub loop-reads-preserved : goal.loop-reads-preserved
loop-reads-preserved c =
    let l = c.loop-reads in
    let left = l.invariant.more c.loop-reads-test.true in
    let P : Bool → Type 0 = λ b. HaveToldBits c.args.bit c.args.node_traces.now (string_bytes c.args.text.now) l.count b
    l.reader l.node_traces (string_bytes l.text) in
    record {
      more = λ reads. one_left l.count c.args.most c.in_ok-reads.reads reads left c.in_ok-reads.ensures.last;
      some = λ over. omega arith;
      most = omega (arith, left);
      told = told_on c.args.bit l.count (l.count + 1) c.args.node_traces.now (string_bytes c.args.text.now)
          c.in_ok-reads.reads l.reader c.put_row.new.reader l.node_traces c.put_row.new.node_traces _ _
          (subst P c.loop-reads-test.true l.invariant.told) c.in_ok-reads.ensures.goes refl;
    }
