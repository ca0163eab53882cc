-- How a run in one thread goes on from turn to turn (this project's own rule).
use Rattle.std.specs.Prelude.{◌≡◌, ◌≢◌, ◌<◌, ◌≤◌, ◌⊎◌, ℕ, List, length, replicate, slice_index_or}
use Rattle.sja_plan.specs.Plan.{PlanValue, steps_at}
use Rattle.sja_driver.specs.StepRuns.{StepRun, step_runs_at, acts_in}
use Rattle.sja_driver.specs.TypedActs.{TypedAct}
use Rattle.sja_journal.specs.BitEntries.{HasMore}
use Rattle.sja_serial.specs.Serial.{Setup, SerialValue, StandsAt, StandsBy, all_acts}
use Rattle.sja_serial.specs.Stepping.{with_step_runs}
use Rattle.sja_serial.specs.Bits.{TakesBits}
use Rattle.sja_log.specs.declared.end.End.{End}
use Rattle.sja_promises.specs.Turns.{RunsTo}
use Rattle.sja_promises.specs.Waiting.{HasToWait}
use Rattle.sja_serial.specs.Ending.{AreFirst, progress, setup_of}
use Rattle.sja_link.specs.Deques.{Deques}
use Rattle.sja_bus_rules.specs.Buses.{BusValue}
use Rattle.sja_bus_rules.specs.Wire.{journal_at}
use Rattle.sja_regs.specs.declared.registers.Registers.{Registers}
use Rattle.sja_steps.specs.declared.step.Step.{Step}
use Rattle.sja_driver.specs.declared.logged_driver.LoggedDriver.{LoggedDriver}

-- neither bits nor a journal, a port or a driver changed
pub record IsAsBefore (was now : SerialValue) : Type 0 where
  pub bits : now.bits ≡ was.bits
  pub journals : now.bus.journals ≡ was.bus.journals
  pub ports : now.ports ≡ was.ports
  pub drivers : now.drivers ≡ was.drivers

-- so many bits were run at once, at most as many as were asked for; where there were none, nothing changed
pub record TakesAtOnce (setup : Setup) (acts : List (List TypedAct)) (was now : SerialValue)
    (most run : ℕ) : Type 0 where
  pub within : run ≤ most
  pub stands : StandsAt setup now acts
  pub none : run ≡ 0 → IsAsBefore was now
  pub some : run ≢ 0 → TakesBits setup acts (λ r. Unit {0}) was run now

-- ---- plans

-- a run of this plan stands where its drivers did these steps: they are the first ones of the plan
pub record StandsIn (plan : PlanValue) (r : SerialValue) (step_runs : List (List StepRun)) : Type 0 where
  pub by : StandsBy (setup_of plan) r step_runs
  pub first : AreFirst plan step_runs

-- there are such steps
abbrev pub IsRunIn : PlanValue → SerialValue → Type 0
IsRunIn plan r = (step_runs : List (List StepRun)) × StandsIn plan r step_runs

-- the driver of a node has no step left, or its next one has to wait
abbrev pub CannotStep : PlanValue → SerialValue → List (List StepRun) → ℕ → Type 0
CannotStep plan r step_runs node =
    (length (steps_at plan node) ≤ length (step_runs_at step_runs node))
    ⊎ ((s : Step) (p : Registers) → HasToWait (slice_index_or r.ports node p) (journal_at r.bus.journals node)
    (acts_in (step_runs_at step_runs node))
    (slice_index_or (steps_at plan node) (length (step_runs_at step_runs node)) s))

-- one turn of a node: these steps more, at most so many, all after the bits that had run; fewer only where the driver
-- is stuck. Each other journal is as it was
pub record TakesTurn (plan : PlanValue) (was now : SerialValue) (node count : ℕ)
    (step_runs : List (List StepRun)) : Type 0 where
  pub more : List StepRun
  pub stands : StandsIn plan now (with_step_runs step_runs node more)
  pub at_once : (i : ℕ) (a : StepRun) → i < length more → (slice_index_or more i a).bits ≡ was.bits
  pub bits : now.bits ≡ was.bits
  pub items : (m : ℕ) → m < length plan.nodes →
      HasMore (journal_at was.bus.journals m) (journal_at now.bus.journals m)
  pub others : (m : ℕ) → m < length plan.nodes → m ≢ node →
      journal_at now.bus.journals m ≡ journal_at was.bus.journals m
  pub most : length more ≤ count
  pub stuck : length more < count → CannotStep plan now (with_step_runs step_runs node more) node

-- the turns of the plan were taken, the run stands at these steps, and so it ends
pub record TakesTurns (plan : PlanValue) (r : SerialValue) (end : End) : Type 0 where
  pub step_runs : List (List StepRun)
  pub stands : StandsIn plan r step_runs
  pub turns : RunsTo (record { plan = plan; journals = r.bus.journals; step_runs = step_runs })
      (record { bits = 0; done = replicate (length plan.nodes) 0 }) plan.turns (progress r step_runs) end

-- the run that these are
abbrev pub run_now : BusValue → List LoggedDriver → List Registers → List Deques → ℕ → SerialValue
run_now bus drivers ports links bits = record {
  bus = bus;
  drivers = drivers;
  ports = ports;
  links = links;
  bits = bits;
}
