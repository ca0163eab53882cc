-- How drivers go by themselves in a run in one thread, and how bits run up to an interrupt (this project's own rule).
use Rattle.std.specs.Prelude.{◌≡◌, ◌+◌, ◌<◌, ◌≤◌, ℕ, suc, true, false, Bool, List, length, slice_index_or}
use Rattle.sja_plan.specs.Plan.{PlanValue, steps_at}
use Rattle.sja_driver.specs.StepRuns.{StepRun, step_runs_at}
use Rattle.sja_driver.specs.TypedActs.{acts_at, is_active}
use Rattle.sja_promises.specs.Registering.{seen_now}
use Rattle.sja_regs.specs.declared.registers.Registers.{Registers}
use Rattle.sja_regs.specs.InterruptLine.{is_line_active}
use Rattle.sja_bus_rules.specs.Wire.{journal_at}
use Rattle.sja_serial.specs.Bits.{TakesBit, TakesBusTurn, TakesRest}
use Rattle.sja_serial.specs.Ending.{setup_of}
use Rattle.sja_serial.specs.Inside.SerialProgress.{StandsIn, TakesTurn}
use Rattle.sja_serial.specs.Serial.{Setup, SerialValue, StandsBy, all_acts}
use Rattle.sja_serial.specs.Stepping.{with_step_runs}

-- ---- all that a driver can do

-- so many steps are one more than the plan has for this node
abbrev pub past_all : PlanValue → ℕ → ℕ
past_all plan node = length (steps_at plan node) + 1

-- from this node on each driver, in the order of the nodes, did all that it could
pub data TakesAll (plan : PlanValue) :
    ℕ → List (List StepRun) → SerialValue → List (List StepRun) → SerialValue → Type 0 where
  no_node_more : (node : ℕ) (step_runs : List (List StepRun)) (was : SerialValue) → length plan.nodes ≤ node →
      TakesAll plan node step_runs was step_runs was
  one_node : (node : ℕ) (step_runs after : List (List StepRun)) (was mid now : SerialValue) →
      node < length plan.nodes → (t : TakesTurn plan was mid node (past_all plan node) step_runs) →
      TakesAll plan (suc node) (with_step_runs step_runs node t.more) mid after now →
      TakesAll plan node step_runs was after now

-- all drivers have done their last step, or some has one left
abbrev pub NoneIsLeft : PlanValue → List (List StepRun) → Type 0
NoneIsLeft plan step_runs = (node : ℕ) → node < length plan.nodes →
    length (steps_at plan node) ≤ length (step_runs_at step_runs node)

abbrev pub SomeIsLeft : PlanValue → List (List StepRun) → Type 0
SomeIsLeft plan step_runs =
    (node : ℕ) × (node < length plan.nodes) × (length (step_runs_at step_runs node) < length (steps_at plan node))

-- `go`, as a whole or until the bits are spent: each driver did all that it could, and a bit was run while some step
-- was left; once none was, all came to rest
pub data TakesGo (plan : PlanValue) : List (List StepRun) → SerialValue → SerialValue → Bool → Type 0 where
  over : (step_runs after : List (List StepRun)) (was mid now : SerialValue) (all : Bool) →
      TakesAll plan 0 step_runs was after mid → NoneIsLeft plan after →
      TakesRest (setup_of plan) (all_acts after) mid now plan.bits all → TakesGo plan step_runs was now all
  spent : (step_runs after : List (List StepRun)) (was mid now : SerialValue) →
      TakesAll plan 0 step_runs was after mid → SomeIsLeft plan after →
      TakesBusTurn (setup_of plan) (all_acts after) mid now 1 false → TakesGo plan step_runs was now false
  one_bit : (step_runs after : List (List StepRun)) (was mid next now : SerialValue) (all : Bool) →
      TakesAll plan 0 step_runs was after mid → SomeIsLeft plan after →
      TakesBusTurn (setup_of plan) (all_acts after) mid next 1 true → TakesGo plan after next now all →
      TakesGo plan step_runs was now all

-- ---- the interrupt line

-- the line of a node was looked at, and found so: what came for its driver was taken in, and nothing else changed
pub record LooksAt (setup : Setup) (step_runs : List (List StepRun)) (node : ℕ) (was now : SerialValue) (line : Bool) :
    Type 0 where
  pub line_is : (p : Registers) → line ≡ is_line_active (slice_index_or was.ports node p)
      (seen_now (is_active (acts_at (all_acts step_runs) node)) (journal_at was.bus.journals node)
      (acts_at (all_acts step_runs) node))
  pub by : StandsBy setup now step_runs
  pub bus : now.bus ≡ was.bus
  pub ports : now.ports ≡ was.ports
  pub bits : now.bits ≡ was.bits

-- `irq`, of so many bits at most: a bit was run while the line wasn't active
pub data TakesIrq (setup : Setup) (step_runs : List (List StepRun)) (node : ℕ) :
    ℕ → SerialValue → SerialValue → Bool → Type 0 where
  none_more : (r : SerialValue) → TakesIrq setup step_runs node 0 r r true
  active : (most : ℕ) (was now : SerialValue) → LooksAt setup step_runs node was now true →
      TakesIrq setup step_runs node (suc most) was now true
  spent : (most : ℕ) (was now : SerialValue) → LooksAt setup step_runs node was now false → now.bits ≡ setup.bits →
      TakesIrq setup step_runs node (suc most) was now false
  one_bit : (most : ℕ) (was mid next now : SerialValue) (all : Bool) → LooksAt setup step_runs node was mid false →
      TakesBit setup (all_acts step_runs) mid next → TakesIrq setup step_runs node most next now all →
      TakesIrq setup step_runs node (suc most) was now all
