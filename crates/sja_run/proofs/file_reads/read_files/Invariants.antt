use Rattle.std.proofs.Common.{◌≡◌, ◌≤◌, ◌-◌, length, map, take, vec_len, vec_capacity}
use Rattle.sja_run.specs.Inside.FileReads.{AreReads}
use Rattle.sja_run.proofs.file_reads.read_files.Given as goal

-- those so far were read, and there is room for the others
abbrev pub invariant-loop-next : goal.invariant-loop-next
invariant-loop-next g l = record {
  read : AreReads (λ v. v.items) (g.F.Sources.holds l.sources) (map (λ name. name.now) (take l.next l.names))
      (g.R.Read.remaining l.fn.input) (g.R.Read.remaining l.input) l.reads.items;
  count : vec_len l.reads ≡ l.next;
  within : l.next ≤ length l.names;
  room : length l.names ≤ vec_capacity l.reads;
  some : l.next ≡ 0 → l.bytes ≡ 0;
}

abbrev pub decreases-loop-next : goal.decreases-loop-next
decreases-loop-next g l = length l.names - l.next
