use Rattle.std.proofs.Common.{◌≡◌, ◌+◌, ◌≤◌, vec_len, vec_capacity, length}
use Rattle.std.specs.Vec.Iter.{into_iter_items, into_iter_len}
use Rattle.sja_run.proofs.FilesDone.FileReads.{ComeSoFar}
use Rattle.sja_run.proofs.file_answers.answers_to.Given as goal

-- what comes of those so far is there, and room for the others
abbrev pub invariant-loop-read : goal.invariant-loop-read
invariant-loop-read g l = record {
  room : vec_len l.outcomes + into_iter_len l.read-iterator ≤ vec_capacity l.outcomes;
  count : vec_len l.outcomes + into_iter_len l.read-iterator ≡ length l.fn.reads.items;
  come : ComeSoFar (λ v. v.items) l.question l.fn.reads.items (into_iter_items l.read-iterator) l.outcomes.items;
}
