use Rattle.std.proofs.Common.{◌≡◌, ◌<◌, ◌≤◌, ℕ, true, false, List, length}
use Rattle.std.specs.Prelude.{slice_index_or}
use Rattle.sja_driver.specs.StepRuns.{StepRun}
use Rattle.sja_session.specs.Lines.{IsStill, line_at}
use Rattle.sja_session.specs.Sessions.{IsAt}
use Rattle.sja_session.proofs.session.Session.looks.Given as goal

-- nothing happened, and the lines of those that are watched, of so many nodes, are told
abbrev pub invariant-loop-node : goal.invariant-loop-node
invariant-loop-node l = record {
  still : (step_runs : List (List StepRun)) → IsAt l.initial.self step_runs → IsStill l.initial.self l.self step_runs;
  told : (step_runs : List (List StepRun)) → IsAt l.initial.self step_runs → (k : ℕ) → k < l.node →
      k < length l.initial.self.plan.nodes → slice_index_or l.watched k false ≡ true →
      slice_index_or l.lines k false ≡ line_at l.initial.self step_runs k;
  rest : (k : ℕ) → length l.initial.self.plan.nodes ≤ k → slice_index_or l.lines k false ≡ false;
  nodes : length l.self.plan.nodes ≡ length l.initial.self.plan.nodes;
  long : length l.lines ≡ 8;
}
