-- Bits of a session up to the first in which a port is told its turn.
use Rattle.std.specs.Prelude.{◌≡◌, ◌+◌, ◌<◌, ℕ, Bool, List, length}
use Rattle.sja_driver.specs.StepRuns.{StepRun}
use Rattle.sja_session.specs.Lines.{line_at}
use Rattle.sja_session.specs.Running.{RunsBits}
use Rattle.sja_session.specs.Sessions.{SessionValue}
use Rattle.sja_session.specs.Watching.{NoneRose}

-- so many bits were run one after the other, at least one. In none of them but the last a line rose, whichever is
-- watched, and before the last one each line is as it was before the first
pub record RunsUntilTold (was now : SessionValue) (run : ℕ) (step_runs : List (List StepRun)) : Type 0 where
  pub before : SessionValue
  pub earlier : ℕ
  pub many : run ≡ earlier + 1
  pub quiet : (watched : List Bool) → NoneRose watched (length was.plan.nodes) step_runs was before earlier
  pub same : (k : ℕ) → k < length was.plan.nodes → line_at before step_runs k ≡ line_at was step_runs k
  pub bit : RunsBits before now 1 1 step_runs
