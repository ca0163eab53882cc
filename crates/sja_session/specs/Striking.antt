-- A strike that a session takes (this project's own rule).
use Rattle.std.specs.Prelude.{◌≡◌, ◌<◌, ◌≤◌, ℕ, List, length}
use Rattle.sja_plan.specs.Limits.{most_strikes}
use Rattle.sja_plan.specs.Plan.{times_in}
use Rattle.sja_plan.specs.Struck.{one_strike, struck_at}
use Rattle.sja_driver.specs.StepRuns.{StepRun}
use Rattle.sja_serial.specs.Striking.{struck_run}
use Rattle.sja_session.specs.declared.strike_fault.StrikeFault.{StrikeFault}
use Rattle.sja_session.specs.declared.strike_fault.StrikeFault.TheVariants.{NoNode, NoBit, Past, StrikesUsed, Memory}
use Rattle.sja_session.specs.Sessions.{SessionValue, HasEnd, IsAt, written}

-- ---- whether it may be taken

-- the node is there, the bit is one of the session's and hasn't run, and where it has an end the strikes so far strike
-- fewer bits than they may in its version, each counted as often as it is struck
pub record MayStrike (s : SessionValue) (node bit : ℕ) : Type 0 where
  pub there : node < length s.plan.nodes
  pub within : bit < s.plan.bits
  pub ahead : s.run.bits ≤ bit
  pub left : HasEnd s → times_in s.plan.strikes < most_strikes s.plan.version

-- why it is not taken: the first of the four that doesn't hold, or else that memory was refused
abbrev pub IsStrikeFault : SessionValue → ℕ → ℕ → StrikeFault → Type 0
IsStrikeFault s node bit NoNode = length s.plan.nodes ≤ node
IsStrikeFault s node bit NoBit = (node < length s.plan.nodes) × (s.plan.bits ≤ bit)
IsStrikeFault s node bit Past = (node < length s.plan.nodes) × (bit < s.plan.bits) × (bit < s.run.bits)
IsStrikeFault s node bit StrikesUsed =
    (node < length s.plan.nodes) × (bit < s.plan.bits) × (s.run.bits ≤ bit)
    × HasEnd s × (most_strikes s.plan.version ≤ times_in s.plan.strikes)
IsStrikeFault s node bit Memory = MayStrike s node bit

-- ---- what comes of it

-- the same session, but that its bus and its plan have one strike more, of this node in this bit
abbrev pub struck_session : SessionValue → ℕ → ℕ → SessionValue
struck_session s node bit =
    record s { run = struck_run s.run (one_strike node bit); plan = struck_at s.plan node bit }

-- the strike was taken, of a bit that hasn't run: nothing else changed, the session stands at the same steps, and the
-- plan that it wrote has the strike more
pub record IsStruck (was now : SessionValue) (node bit : ℕ) (step_runs : List (List StepRun)) : Type 0 where
  pub ahead : was.run.bits ≤ bit
  pub is : now ≡ struck_session was node bit
  pub at : IsAt now step_runs
  pub wrote : written now ≡ struck_at (written was) node bit
