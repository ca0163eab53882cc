-- A session: a run in one thread that its holder drives (this project's own rule).
use Rattle.std.specs.Prelude.{◌≡◌, ◌+◌, ◌<◌, ◌≤◌, ◌++◌, ℕ, List, [], ◌∷◌, length, map, replicate, reverse}
use Rattle.std.specs.Prelude.{◌^◌, nat_lt, if◌then◌else◌, slice_index_or}
use Rattle.sja_plan.specs.declared.turn.Turn.{Turn}
use Rattle.sja_plan.specs.declared.turn.Turn.TheVariants.{Bus, Node}
use Rattle.sja_plan.specs.Growing.{plan_of}
use Rattle.sja_plan.specs.Limits.{most_bits, most_steps, most_turns}
use Rattle.sja_plan.specs.Plan.{PlanValue, NamesNode}
use Rattle.sja_steps.specs.declared.step.Step.{Step}
use Rattle.sja_steps.specs.declared.strike.Strike.{Strike}
use Rattle.sja_driver.specs.StepRuns.{StepRun, step_runs_at, most_acts}
use Rattle.sja_promises.specs.Turns.{Progress, with_bits, with_steps, steps_done}
use Rattle.sja_serial.specs.Ending.{progress}
use Rattle.sja_serial.specs.Serial.{Setup, SerialValue, StandsBy}
use Rattle.sja_session.specs.declared.session_room.SessionRoom.{SessionRoom}

-- what a contract sees of a session: its run, the plan that it goes by, whose steps and turns don't count, the steps of
-- each node that were done, for how many of them and how many turns there is room, and the turns that were taken
pub record SessionValue : Type 0 where
  pub run : SerialValue
  pub plan : PlanValue
  pub steps : List (List Step)
  pub room : SessionRoom
  pub turns : List Turn

-- the session that these are
abbrev pub session_of : SessionRoom → SerialValue → PlanValue → List (List Step) → List Turn → SessionValue
session_of room run plan steps turns =
    record { run = run; plan = plan; steps = steps; room = room; turns = turns }

-- a plan of so many bits, and with these strikes after its own
abbrev pub plan_with : PlanValue → ℕ → List Strike → PlanValue
plan_with p bits struck = record p { bits = bits; strikes = p.strikes ++ struck }

-- a session with an end has no more bits than a plan of its version may have: it writes a plan, of which each turn is
-- a turn. One without an end has more, and takes no turns down
abbrev pub HasEnd : SessionValue → Type 0
HasEnd s = s.plan.bits ≤ most_bits s.plan.version

abbrev pub IsEndless : SessionValue → Type 0
IsEndless s = most_bits s.plan.version < s.plan.bits

-- the plan that the session wrote: the steps that were done, and the turns that were taken
abbrev pub written : SessionValue → PlanValue
written s = plan_of s.plan.version s.plan.bits s.steps s.turns s.plan.strikes

-- by which version its run goes: that of the plan. Without an end it's one that no plan has, whose rules are those of
-- version 3, but that starts aren't used up
abbrev pub run_version : PlanValue → ℕ
run_version p = if nat_lt (most_bits p.version) p.bits then 4 else p.version

-- for what a run of such a plan is made that has room for so many steps of each node
abbrev pub setup_for : PlanValue → ℕ → Setup
setup_for p size = record {
  version = run_version p;
  bits = p.bits;
  strikes = p.strikes;
  nodes = length p.nodes;
  steps = replicate (length p.nodes) (most_acts (run_version p) size);
}

-- for what its run was made
abbrev pub setup_by : SessionValue → Setup
setup_by s = setup_for (written s) s.room.steps

-- the steps that these are, as a plan has them, of each node
abbrev pub steps_in : List (List StepRun) → List (List Step)
steps_in = map (λ (step_runs : List StepRun). map (λ (a : StepRun). a.step) step_runs)

-- these turns, latest first, led from the first point of the run to this one, and each was taken whole: its bits were
-- run, or its steps were done, all after the same bits
pub data Took (step_runs : List (List StepRun)) (first : Progress) : List Turn → Progress → Type 0 where
  none : Took step_runs first [] first
  bus : (earlier : List Turn) (p : Progress) (n : ℕ) → Took step_runs first earlier p →
      Took step_runs first (Bus n ∷ earlier) (with_bits p n)
  node : (earlier : List Turn) (p : Progress) (k n : ℕ) → Took step_runs first earlier p →
      steps_done p k + n ≤ length (step_runs_at step_runs k) →
      ((i : ℕ) (a : StepRun) → i < n →
      (slice_index_or (step_runs_at step_runs k) (steps_done p k + i) a).bits ≡ p.bits) →
      Took step_runs first (Node k n ∷ earlier) (with_steps p k n)

-- where every run begins
abbrev pub start_of : ℕ → Progress
start_of nodes = record { bits = 0; done = replicate nodes 0 }

-- the session stands where its drivers did these steps: its run does, they were written, and where it has an end its
-- turns led there
pub record IsAt (s : SessionValue) (step_runs : List (List StepRun)) : Type 0 where
  pub stands : StandsBy (setup_by s) s.run step_runs
  pub steps : steps_in step_runs ≡ s.steps
  pub count : length s.steps ≡ length s.plan.nodes
  pub took : HasEnd s → Took step_runs (start_of (length s.plan.nodes)) (reverse s.turns) (progress s.run step_runs)

-- each of these turns is of a node that is there
abbrev pub AreNamed : ℕ → List Turn → Type 0
AreNamed nodes [] = Unit {0}
AreNamed nodes (t ∷ turns) = NamesNode nodes t × AreNamed nodes turns

-- what holds of every session: it stands at some steps, no more of each node than there is room for; each turn is of a
-- node that is there. Where it has an end its steps and turns are within the limits of a plan of its version, and there
-- is room for one turn more; else it goes by the rules of version 3, and its room is one that can be counted
pub record IsSession (s : SessionValue) (sizes : List ℕ) (capacity : ℕ) : Type 0 where
  pub step_runs : List (List StepRun)
  pub at : IsAt s step_runs
  pub rules : IsEndless s → s.plan.version ≡ 3
  pub places : (node : ℕ) → node < length s.plan.nodes → slice_index_or sizes node 0 ≡ s.room.steps
  pub done : (node : ℕ) → node < length s.plan.nodes → length (slice_index_or s.steps node []) ≤ s.room.steps
  pub counted : s.room.steps ≤ 2 ^ 56
  pub steps : HasEnd s → s.room.steps ≤ most_steps s.plan.version
  pub most : HasEnd s → s.room.turns ≤ most_turns s.plan.version
  pub room : s.room.turns + 1 ≤ capacity
  pub few : length s.turns ≤ s.room.turns
  pub names : AreNamed (length s.plan.nodes) (reverse s.turns)
