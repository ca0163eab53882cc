use Rattle.std.proofs.Common.{◌≡◌, ◌-◌, ◌≤◌, ◌<◌, ℕ, true, false, List, length}
use Rattle.std.specs.Prelude.{slice_index_or}
use Rattle.sja_driver.specs.StepRuns.{StepRun}
use Rattle.sja_session.specs.Lines.{line_at}
use Rattle.sja_session.specs.Running.{MayRun}
use Rattle.sja_session.specs.Sessions.{IsAt}
use Rattle.sja_session.specs.Watching.{NoneRose}
use Rattle.sja_session.proofs.session.Session.watch.Given as goal

-- so many bits were run in which no line rose, and the lines of watched nodes are told as they are now
abbrev pub invariant-loop-bits : goal.invariant-loop-bits
invariant-loop-bits l = record {
  ran : (step_runs : List (List StepRun)) → IsAt l.fn.self step_runs →
      NoneRose l.watched (length l.fn.self.plan.nodes) step_runs l.fn.self l.self l.bits;
  told : (step_runs : List (List StepRun)) → IsAt l.fn.self step_runs → (k : ℕ) → k < length l.fn.self.plan.nodes →
      k < 8 →
      slice_index_or l.watched k false ≡ true → slice_index_or l.before k false ≡ line_at l.self step_runs k;
  may : 1 ≤ l.count → MayRun l.self 1;
  most : l.bits ≤ l.count;
}

abbrev pub decreases-loop-bits : goal.decreases-loop-bits
decreases-loop-bits l = l.count - l.bits
