use Rattle.std.proofs.Common.{◌≡◌, ◌-◌, ◌<◌, ◌≤◌, ◌^◌, List, length}
use Rattle.sja_driver.specs.StepRuns.{StepRun}
use Rattle.sja_session.specs.Lines.{IsStill, line_at, lines_from}
use Rattle.sja_session.specs.Sessions.{IsAt}
use Rattle.sja_session.proofs.session.Session.lines.Given as goal

-- nothing happened, and the lines of so many nodes, the last ones, are told
abbrev pub invariant-loop-place : goal.invariant-loop-place
invariant-loop-place l = record {
  still : (step_runs : List (List StepRun)) → IsAt l.initial.self step_runs → IsStill l.initial.self l.self step_runs;
  value : (step_runs : List (List StepRun)) → IsAt l.initial.self step_runs →
      l.lines ≡ lines_from (line_at l.initial.self step_runs) (l.nodes - l.place) l.place;
  few : l.lines < 2 ^ l.place;
  nodes : l.nodes ≡ length l.initial.self.plan.nodes;
  eight : l.nodes ≤ 8;
  same : length l.self.plan.nodes ≡ length l.initial.self.plan.nodes;
}
