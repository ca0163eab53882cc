-- A step of a node's driver that is tried, in a run in one thread (this project's own rule).
use Rattle.std.specs.Prelude.{◌≡◌, ◌≢◌, ◌<◌, ◌++◌, ℕ, List, [], ◌∷◌, length, slice_index_or, slice_set}
use Rattle.sja_bus_rules.specs.Wire.{journal_at}
use Rattle.sja_regs.specs.declared.registers.Registers.{Registers}
use Rattle.sja_steps.specs.declared.step.Step.{Step}
use Rattle.sja_steps.specs.declared.step_answer.StepAnswer.{StepAnswer}
use Rattle.sja_driver.specs.StepRuns.{StepRun, IsStepRun, step_runs_at, acts_in}
use Rattle.sja_driver.specs.TypedActs.{TypedAct, acts_at, opened_by, is_active, FitsState}
use Rattle.sja_driver.specs.LoggedDrivers.{kept_of, log_of}
use Rattle.sja_driver.specs.Logs.{done_in}
use Rattle.sja_driver.specs.declared.logged_driver.LoggedDriver.{LoggedDriver}
use Rattle.sja_journal.specs.BitEntries.{HasMore}
use Rattle.sja_promises.specs.Registering.{IsPortAct, LeadOn, seen_now}
use Rattle.sja_promises.specs.Waiting.{HasToWait}
use Rattle.sja_driver.specs.Windows.{SeesIf}
use Rattle.sja_serial.specs.Serial.{Setup, SerialValue, StandsAt, StandsBy, NodeDoes, all_acts, most_steps}

-- with steps more of a node
abbrev pub with_step_runs : List (List StepRun) → ℕ → List StepRun → List (List StepRun)
with_step_runs step_runs node more = slice_set step_runs node (step_runs_at step_runs node ++ more)

-- the node is there, and room is left for a step of its driver
pub record HasRoomLeft (setup : Setup) (r : SerialValue) (node : ℕ) : Type 0 where
  pub there : node < setup.nodes
  pub left : (d : LoggedDriver) → length (done_in (log_of (slice_index_or r.drivers node d)))
      < most_steps setup.version (slice_index_or setup.steps node 0)

-- ---- one act

-- the run stands at some acts, and there is room for one more of this node
pub record HasActLeft (setup : Setup) (r : SerialValue) (node : ℕ) : Type 0 where
  pub acts : List (List TypedAct)
  pub stands : StandsAt setup r acts
  pub there : node < setup.nodes
  pub left : length (acts_at acts node) < slice_index_or setup.steps node 0

-- the driver of a node did this: one act more, answered by its state, by the registers of its port as they were and by
-- what is seen of the messages. It gave what the act gives by those registers, which was taken at once: the node's
-- journal has just these items more, and each other journal is as it was. The port is as the act leaves it, and each
-- other port as it was. What drivers have as done, and their kept bytes, stay
pub record DoesAct (setup : Setup) (was now : SerialValue) (node : ℕ) (step : Step) (answer : StepAnswer)
    (acts : List (List TypedAct)) : Type 0 where
  pub act : TypedAct
  pub does : NodeDoes setup was now node acts (act ∷ [])
  pub step_is : act.step ≡ step
  pub answer_is : act.answer ≡ answer
  pub port : (p : Registers) → IsPortAct (slice_index_or was.ports node p) (slice_index_or now.ports node p)
      (journal_at was.bus.journals node) (journal_at now.bus.journals node) (acts_at acts node) act
  pub fits : FitsState setup.version (is_active (acts_at acts node)) (opened_by (acts_at acts node)) act.step
      act.answer
  pub sees : SeesIf (is_active (acts_at acts node)) (journal_at was.bus.journals node) (acts_at acts node) act
  pub others : (m : ℕ) → m < setup.nodes → m ≢ node →
      journal_at now.bus.journals m ≡ journal_at was.bus.journals m
  pub ports : (m : ℕ) (p : Registers) → m ≢ node → slice_index_or now.ports m p ≡ slice_index_or was.ports m p
  pub logs : (m : ℕ) (d : LoggedDriver) → m < setup.nodes →
      (log_of (slice_index_or now.drivers m d)).done ≡ (log_of (slice_index_or was.drivers m d)).done
  pub kept : (m : ℕ) (d : LoggedDriver) → m < setup.nodes →
      kept_of (slice_index_or now.drivers m d) ≡ kept_of (slice_index_or was.drivers m d)

-- the driver of a node did nothing, since this step has to wait: no port and no journal changed
pub record DoesNothing (setup : Setup) (was now : SerialValue) (node : ℕ) (step : Step) (acts : List (List TypedAct)) :
    Type 0 where
  pub does : NodeDoes setup was now node acts []
  pub why : (p : Registers) → HasToWait (slice_index_or now.ports node p) (journal_at now.bus.journals node)
      (acts_at acts node) step
  pub ports : now.ports ≡ was.ports
  pub journals : (m : ℕ) → m < setup.nodes →
      journal_at now.bus.journals m ≡ journal_at was.bus.journals m
  pub logs : (m : ℕ) (d : LoggedDriver) → m < setup.nodes →
      (log_of (slice_index_or now.drivers m d)).done ≡ (log_of (slice_index_or was.drivers m d)).done
  pub kept : (m : ℕ) (d : LoggedDriver) → m < setup.nodes →
      kept_of (slice_index_or now.drivers m d) ≡ kept_of (slice_index_or was.drivers m d)

-- ---- a step

-- the driver of a node did this step: it was these acts, by the registers that its port had and by what was kept, one
-- right after the other. Its log has it as done, after the bits that had run, and no bit was run. Each other journal,
-- and each other port, is as it was
pub record DoesStep (setup : Setup) (was now : SerialValue) (node : ℕ) (step : Step) (step_runs : List (List StepRun)) :
    Type 0 where
  pub step_run : StepRun
  pub stands : StandsBy setup now (with_step_runs step_runs node (step_run ∷ []))
  pub step_is : step_run.step ≡ step
  pub bits_are : step_run.bits ≡ was.bits
  pub bits : now.bits ≡ was.bits
  pub is : (d : LoggedDriver) (p : Registers) → let acts = acts_in (step_runs_at step_runs node) in
      IsStepRun setup.version (slice_index_or was.ports node p)
      (seen_now (is_active acts) (journal_at was.bus.journals node) acts) (is_active acts)
      (kept_of (slice_index_or was.drivers node d)) step_run (kept_of (slice_index_or now.drivers node d))
  pub on : (p : Registers) → LeadOn (acts_in (step_runs_at step_runs node)) (journal_at was.bus.journals node)
      (slice_index_or was.ports node p) step_run.acts (journal_at now.bus.journals node)
      (slice_index_or now.ports node p)
  pub items : (m : ℕ) → m < setup.nodes → HasMore (journal_at was.bus.journals m) (journal_at now.bus.journals m)
  pub others : (m : ℕ) → m < setup.nodes → m ≢ node →
      journal_at now.bus.journals m ≡ journal_at was.bus.journals m
  pub ports : (m : ℕ) (p : Registers) → m ≢ node → slice_index_or now.ports m p ≡ slice_index_or was.ports m p

-- the driver of a node did nothing, since this step has to wait: no port, no journal and no log changed
pub record WaitsFor (setup : Setup) (was now : SerialValue) (node : ℕ) (step : Step) (step_runs : List (List StepRun)) :
    Type 0 where
  pub stands : StandsBy setup now step_runs
  pub nothing : DoesNothing setup was now node step (all_acts step_runs)
