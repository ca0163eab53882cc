-- Reads and writes of a session by addresses and bytes, as a driver for the real chip makes them (this project's own
-- rule). In version 3 each is one step of the plan. In versions 1 and 2, whose steps are typed, a read is the step
-- `Read`, and a write is those typed steps that do the same.
use Rattle.std.specs.Prelude.{◌≡◌, ◌<◌, ◌≤◌, ◌⊎◌, ◌+◌, ℕ, Bool, true, false, List, [], ◌∷◌, length, slice_index_or}
use Rattle.sja_bus_rules.specs.Wire.{journal_at}
use Rattle.sja_plan.specs.declared.turn.Turn.TheVariants.{Node}
use Rattle.sja_regs.specs.declared.registers.Registers.{Registers}
use Rattle.sja_steps.specs.declared.step.Step.{Step}
use Rattle.sja_steps.specs.declared.step.Step.TheVariants.{Read, Write}
use Rattle.sja_steps.specs.declared.step_answer.StepAnswer.{StepAnswer}
use Rattle.sja_driver.specs.StepRuns.{StepRun, step_runs_at, by_bytes, acts_in}
use Rattle.sja_driver.specs.TypedActs.{is_active}
use Rattle.sja_driver.specs.LoggedDrivers.{kept_of}
use Rattle.sja_driver.specs.declared.logged_driver.LoggedDriver.{LoggedDriver}
use Rattle.sja_driver.specs.Reads.{value_by_bytes}
use Rattle.sja_driver.specs.Writes.{write_steps}
use Rattle.sja_promises.specs.Registering.{seen_now}
use Rattle.sja_serial.specs.Stepping.{with_step_runs}
use Rattle.sja_session.specs.declared.step_fault.StepFault.{StepFault}
use Rattle.sja_session.specs.declared.step_fault.StepFault.TheVariants.{NoNode, StepsUsed, TurnsUsed}
use Rattle.sja_session.specs.Sessions.{SessionValue}
use Rattle.sja_session.specs.Stepping.{HasTurn, LacksTurn, DoesStep, steps_done_of}

-- ---- steps, one after the other

-- these steps of a node were done, one right after the other, with these answers: the first by the session as it was,
-- each other one by what the one before it left
pub data DoesSteps (node : ℕ) : SessionValue → List (List StepRun) → List Step → List StepAnswer → SessionValue →
    List (List StepRun) → Type 0 where
  none : {s : SessionValue} {step_runs : List (List StepRun)} → DoesSteps node s step_runs [] [] s step_runs
  more : {was mid now : SessionValue} {step_runs after : List (List StepRun)} {step : Step} {answer : StepAnswer}
      {steps : List Step} {answers : List StepAnswer} (does : DoesStep was mid node step answer step_runs) →
      DoesSteps node mid (with_step_runs step_runs node (does.step_run ∷ [])) steps answers now after →
      DoesSteps node was step_runs (step ∷ steps) (answer ∷ answers) now after

-- ---- whether they may be tried

-- there is a turn for so many steps; none needs none
abbrev pub HasTurnFor : SessionValue → ℕ → ℕ → Type 0
HasTurnFor s node count = (count < 1) ⊎ HasTurn s (Node node 1)

-- the node is there, so many steps of it are left, and there is a turn for them
pub record MayDo (s : SessionValue) (node count : ℕ) : Type 0 where
  pub there : node < length s.plan.nodes
  pub left : steps_done_of s node + count ≤ s.room.steps
  pub turn : HasTurnFor s node count

-- why they may not be tried: the first of the three that doesn't hold
abbrev pub IsAccessFault : SessionValue → ℕ → ℕ → StepFault → Type 0
IsAccessFault s node count NoNode = length s.plan.nodes ≤ node
IsAccessFault s node count StepsUsed = (node < length s.plan.nodes) × (s.room.steps < steps_done_of s node + count)
IsAccessFault s node count TurnsUsed =
    (node < length s.plan.nodes) × (steps_done_of s node + count ≤ s.room.steps) × (1 ≤ count)
    × LacksTurn s (Node node 1)

-- ---- reads

-- an address was read: that is the step `Read`, and the value is that of the register of the port that stands there, by
-- the registers and the messages as they were, or of the kept one, or 0
pub record Reads (was now : SessionValue) (node address value : ℕ) (step_runs : List (List StepRun)) : Type 0 where
  pub answer : StepAnswer
  pub does : DoesStep was now node (Read address) answer step_runs
  pub is : (d : LoggedDriver) (p : Registers) → let acts = acts_in (step_runs_at step_runs node) in
      value ≡ value_by_bytes (slice_index_or was.run.ports node p) (kept_of (slice_index_or was.run.drivers node d))
      (seen_now (is_active acts) (journal_at was.run.bus.journals node) acts) address

-- ---- writes

-- the steps of the plan that a write is where steps are by bytes or aren't, at these registers, of a driver that is out
-- of reset or isn't
abbrev pub steps_by : Bool → Registers → Bool → ℕ → ℕ → List Step
steps_by true p active address value = Write address value ∷ []
steps_by false p active address value = write_steps p active address value

-- in the session's version, by the registers as they were and by whether the driver was out of reset
abbrev pub steps_of : SessionValue → ℕ → ℕ → ℕ → List (List StepRun) → Registers → List Step
steps_of s node address value step_runs p = steps_by (by_bytes s.plan.version) (slice_index_or s.run.ports node p)
    (is_active (acts_in (step_runs_at step_runs node))) address value

-- such a write may be done, and why it may not
abbrev pub MayWrite : SessionValue → ℕ → ℕ → ℕ → List (List StepRun) → Type 0
MayWrite s node address value step_runs =
    (p : Registers) → MayDo s node (length (steps_of s node address value step_runs p))

abbrev pub IsWriteFault : SessionValue → ℕ → ℕ → ℕ → List (List StepRun) → StepFault → Type 0
IsWriteFault s node address value step_runs fault =
    (p : Registers) → IsAccessFault s node (length (steps_of s node address value step_runs p)) fault

-- an address was written: the steps that this is were done
pub record Writes (was now : SessionValue) (node address value : ℕ) (step_runs : List (List StepRun)) : Type 0 where
  pub answers : List StepAnswer
  pub after : List (List StepRun)
  pub does : (p : Registers) →
      DoesSteps node was step_runs (steps_of was node address value step_runs p) answers now after
