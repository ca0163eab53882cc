use Rattle.std.proofs.Common.{◌≡◌, ◌≤◌, vec_len, vec_capacity}
use Rattle.sja_run.proofs.thread_text.gates_of.Given as goal

-- the gates so far, and room for the others
abbrev pub invariant-loop : goal.invariant-loop
invariant-loop l = record {
  count : vec_len l.gates ≡ l.counter;
  room : l.nodes ≤ vec_capacity l.gates;
}
