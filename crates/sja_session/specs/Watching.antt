-- Bits that a session runs until an interrupt line rises (this project's own rule).
use Rattle.std.specs.Prelude.{◌≡◌, ◌+◌, ◌≤◌, ◌<◌, ◌⊎◌, ◌&&◌, not, ℕ, Bool, true, false, Option, Some, None, List}
use Rattle.std.specs.Prelude.{length}
use Rattle.std.specs.Prelude.{slice_index_or}
use Rattle.sja_driver.specs.StepRuns.{StepRun}
use Rattle.sja_session.specs.Lines.{IsStill, line_at}
use Rattle.sja_session.specs.Running.{RunsBits}
use Rattle.sja_session.specs.Sessions.{SessionValue}

-- what wasn't so before a bit is so after it
abbrev pub rise : Bool → Bool → Bool
rise before now = not before && now

-- the line of a node is watched, and wasn't active before and is now
abbrev pub rises : List Bool → SessionValue → SessionValue → List (List StepRun) → ℕ → Bool
rises watched was now step_runs k =
    slice_index_or watched k false && rise (line_at was step_runs k) (line_at now step_runs k)

-- so many bits were run one after the other, and in none of them the line of a watched one of so many nodes rose.
-- Before the first of them and after each one the lines may have been looked at, which changes nothing
pub data NoneRose (watched : List Bool) (nodes : ℕ) (step_runs : List (List StepRun)) :
    SessionValue → SessionValue → ℕ → Type 0 where
  none : {was now : SessionValue} → IsStill was now step_runs → NoneRose watched nodes step_runs was now 0
  bit : {was before after now : SessionValue} {n : ℕ} → NoneRose watched nodes step_runs was before n →
      RunsBits before after 1 1 step_runs → ((k : ℕ) → k < nodes → rises watched before after step_runs k ≡ false) →
      IsStill after now step_runs → NoneRose watched nodes step_runs was now (n + 1)

-- in the last of so many bits, and in none before it, the line of a watched node rose: of this node, and of none before
-- it
pub record RoseLast (was now : SessionValue) (run : ℕ) (watched : List Bool) (node : ℕ)
    (step_runs : List (List StepRun)) : Type 0 where
  pub before : SessionValue
  pub after : SessionValue
  pub others : ℕ
  pub earlier : NoneRose watched (length was.plan.nodes) step_runs was before others
  pub bit : RunsBits before after 1 1 step_runs
  pub still : IsStill after now step_runs
  pub many : run ≡ others + 1
  pub rose : rises watched before after step_runs node ≡ true
  pub first : (k : ℕ) → k < node → rises watched before after step_runs k ≡ false
  pub there : node < length was.plan.nodes

-- what came of it: a line rose in the last bit, or none did in any, and all bits were run that were asked for, or as
-- many as were left. After the last bit the lines may have been looked at in either case
abbrev pub Watches :
    SessionValue → SessionValue → ℕ → List Bool → ℕ → Option ℕ → List (List StepRun) → Type 0
Watches was now count watched run (Some node) step_runs = RoseLast was now run watched node step_runs × (run ≤ count)
Watches was now count watched run None step_runs =
    NoneRose watched (length was.plan.nodes) step_runs was now run × (run ≤ count)
    × ((run ≡ count) ⊎ (was.plan.bits ≤ now.run.bits))
