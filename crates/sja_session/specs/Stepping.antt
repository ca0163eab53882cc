-- A step that a session does (this project's own rule).
use Rattle.std.specs.Prelude.{◌≡◌, ◌≢◌, ◌<◌, ◌≤◌, ◌⊎◌, ℕ, true, false, List, [], ◌∷◌, length, reverse}
use Rattle.std.specs.Prelude.{slice_index_or}
use Rattle.sja_bus_rules.specs.Wire.{journal_at}
use Rattle.sja_plan.specs.declared.turn.Turn.{Turn}
use Rattle.sja_plan.specs.declared.turn.Turn.TheVariants.{Node}
use Rattle.sja_regs.specs.declared.registers.Registers.{Registers}
use Rattle.sja_regs.specs.Registers.{at_power_on}
use Rattle.sja_steps.specs.declared.step.Step.{Step}
use Rattle.sja_steps.specs.declared.step_answer.StepAnswer.{StepAnswer}
use Rattle.sja_driver.specs.StepRuns.{StepRun, IsStepRun, step_runs_at, acts_in}
use Rattle.sja_driver.specs.TypedActs.{is_active}
use Rattle.sja_driver.specs.LoggedDrivers.{kept_of}
use Rattle.sja_driver.specs.declared.logged_driver.LoggedDriver.{LoggedDriver}
use Rattle.sja_promises.specs.Registering.{LeadOn, seen_now}
use Rattle.sja_promises.specs.Waiting.{HasToWait}
use Rattle.sja_serial.specs.Stepping.{with_step_runs}
use Rattle.sja_session.specs.declared.step_fault.StepFault.{StepFault}
use Rattle.sja_session.specs.declared.step_fault.StepFault.TheVariants.{NoNode, StepsUsed, TurnsUsed}
use Rattle.sja_session.specs.Sessions.{SessionValue, HasEnd, IsAt, IsEndless, written}
use Rattle.sja_session.specs.Turning.{goes_on_latest}
use Rattle.sja_session.specs.Writing.{with_step_done}

-- ---- whether it may be tried

-- a turn is left, or this one goes on with the last one; without an end none is needed
abbrev pub HasTurn : SessionValue → Turn → Type 0
HasTurn s t = IsEndless s ⊎ (length s.turns < s.room.turns) ⊎ (goes_on_latest (reverse s.turns) t ≡ true)

-- else: it has an end, and no turn is left for it
abbrev pub LacksTurn : SessionValue → Turn → Type 0
LacksTurn s t = HasEnd s × (s.room.turns ≤ length s.turns) × (goes_on_latest (reverse s.turns) t ≡ false)

-- how many steps of a node are done
abbrev pub steps_done_of : SessionValue → ℕ → ℕ
steps_done_of s node = length (slice_index_or s.steps node [])

-- the node is there, room is left for a step of it, and there is a turn for one more
pub record MayStep (s : SessionValue) (node : ℕ) : Type 0 where
  pub there : node < length s.plan.nodes
  pub left : steps_done_of s node < s.room.steps
  pub turn : HasTurn s (Node node 1)

-- why it may not be tried: the first of the three that doesn't hold
abbrev pub IsStepFault : SessionValue → ℕ → StepFault → Type 0
IsStepFault s node NoNode = length s.plan.nodes ≤ node
IsStepFault s node StepsUsed = (node < length s.plan.nodes) × (s.room.steps ≤ steps_done_of s node)
IsStepFault s node TurnsUsed =
    (node < length s.plan.nodes) × (steps_done_of s node < s.room.steps) × LacksTurn s (Node node 1)

-- ---- what comes of it

-- the step was done with this answer, after the bits that had run, and no bit was run. It was its acts, by the
-- registers of the node's port as they were, by the messages that had come and by what was kept. The node's journal and
-- port are as these left them, one right after the other, each other one is as it was, and the plan has the step more
pub record DoesStep (was now : SessionValue) (node : ℕ) (step : Step) (answer : StepAnswer)
    (step_runs : List (List StepRun)) : Type 0 where
  pub step_run : StepRun
  pub is : step_run.step ≡ step
  pub answered : step_run.answer ≡ answer
  pub when : step_run.bits ≡ was.run.bits
  pub what : (d : LoggedDriver) (p : Registers) → let acts = acts_in (step_runs_at step_runs node) in
      IsStepRun was.plan.version (slice_index_or was.run.ports node p)
      (seen_now (is_active acts) (journal_at was.run.bus.journals node) acts) (is_active acts)
      (kept_of (slice_index_or was.run.drivers node d)) step_run (kept_of (slice_index_or now.run.drivers node d))
  pub on : (p : Registers) → LeadOn (acts_in (step_runs_at step_runs node)) (journal_at was.run.bus.journals node)
      (slice_index_or was.run.ports node p) step_run.acts (journal_at now.run.bus.journals node)
      (slice_index_or now.run.ports node p)
  pub others : (m : ℕ) → m < length was.plan.nodes → m ≢ node →
      journal_at now.run.bus.journals m ≡ journal_at was.run.bus.journals m
  pub ports : (m : ℕ) (p : Registers) → m ≢ node →
      slice_index_or now.run.ports m p ≡ slice_index_or was.run.ports m p
  pub at : IsAt now (with_step_runs step_runs node (step_run ∷ []))
  pub bits : now.run.bits ≡ was.run.bits
  pub room : now.room ≡ was.room
  pub wrote : HasEnd was → written now ≡ with_step_done (written was) node step
  pub plan : now.plan ≡ was.plan

-- the step has to wait, and nothing happened that the bus, a port or the plan shows: no step was done, no bit was run,
-- no port, no journal and no kept byte changed, and the plan is the same. The driver may have taken in what its link
-- showed, no more
pub record Waits (was now : SessionValue) (node : ℕ) (step : Step) (step_runs : List (List StepRun)) : Type 0 where
  pub why : HasToWait (slice_index_or was.run.ports node (at_power_on 1)) (journal_at was.run.bus.journals node)
      (acts_in (step_runs_at step_runs node)) step
  pub at : IsAt now step_runs
  pub bits : now.run.bits ≡ was.run.bits
  pub ports : now.run.ports ≡ was.run.ports
  pub journals : (m : ℕ) → m < length was.plan.nodes →
      journal_at now.run.bus.journals m ≡ journal_at was.run.bus.journals m
  pub kept : (m : ℕ) (d : LoggedDriver) → m < length was.plan.nodes →
      kept_of (slice_index_or now.run.drivers m d) ≡ kept_of (slice_index_or was.run.drivers m d)
  pub room : now.room ≡ was.room
  pub wrote : written now ≡ written was
  pub plan : now.plan ≡ was.plan
