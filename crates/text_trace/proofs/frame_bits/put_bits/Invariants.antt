use Rattle.std.proofs.Common.{◌≡◌, ◌<◌, ◌≤◌, ◌-◌, true, false, string_bytes}
use Rattle.text_trace.specs.Inside.Reading.{HaveToldBits}
use Rattle.text_trace.proofs.frame_bits.put_bits.Given as goal

-- so many bits were told; where more are told, one is left at least
abbrev pub invariant-loop-reads : goal.invariant-loop-reads
invariant-loop-reads l = record {
  more : l.reads ≡ true → l.count < l.most;
  some : l.reads ≡ false → 0 < l.count;
  most : l.count ≤ l.most;
  told : HaveToldBits l.bit l.fn.node_traces (string_bytes l.fn.text) l.count l.reads l.reader l.node_traces
      (string_bytes l.text);
}

abbrev pub decreases-loop-reads : goal.decreases-loop-reads
decreases-loop-reads l = l.most - l.count
