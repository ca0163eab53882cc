-- A step of a driver on its way, which may be several acts (this project's own rule).
use Rattle.std.specs.Prelude.{◌≡◌, ◌≢◌, ◌<◌, ◌++◌, ℕ, Option, List, [], ◌∷◌, map, slice_index_or, slice_set}
use Rattle.sja_journal.specs.BitEntries.{HasMore}
use Rattle.sja_bus_rules.specs.Wire.{journal_at}
use Rattle.sja_regs.specs.declared.registers.Registers.{Registers}
use Rattle.sja_steps.specs.declared.step.Step.{Step}
use Rattle.sja_steps.specs.declared.step_answer.StepAnswer.{StepAnswer}
use Rattle.sja_driver.specs.declared.unmodelled_registers.UnmodelledRegisters.{UnmodelledRegisters}
use Rattle.sja_driver.specs.declared.logged_driver.LoggedDriver.{LoggedDriver}
use Rattle.sja_driver.specs.declared.written.Written.{Written}
use Rattle.sja_driver.specs.StepRuns.{StepRun, step_runs_at, acts_in}
use Rattle.sja_driver.specs.TypedActs.{TypedAct, is_active, with_acts}
use Rattle.sja_driver.specs.LoggedDrivers.{kept_of, log_of}
use Rattle.sja_driver.specs.Logs.{done_in, done_room}
use Rattle.sja_driver.specs.WriteLists.{listed}
use Rattle.sja_driver.specs.Writes.{write_steps}
use Rattle.sja_driver.specs.Written.{written_at, written_by}
use Rattle.sja_promises.specs.Registering.{LeadOn}
use Rattle.sja_serial.specs.Serial.{Setup, SerialValue, StandsAt, StandsBy, all_acts}

-- since a step began, before which these steps were done, the driver of its node did these acts, one right after the
-- other, and nothing of them is entered yet
pub record DoesActs (setup : Setup) (was now : SerialValue) (node : ℕ) (step_runs : List (List StepRun))
    (more : List TypedAct) : Type 0 where
  pub stands : StandsAt setup now (with_acts (all_acts step_runs) node more)
  pub bits : now.bits ≡ was.bits
  pub on : (p : Registers) → LeadOn (acts_in (step_runs_at step_runs node)) (journal_at was.bus.journals node)
      (slice_index_or was.ports node p) more (journal_at now.bus.journals node) (slice_index_or now.ports node p)
  pub items : (m : ℕ) → m < setup.nodes → HasMore (journal_at was.bus.journals m) (journal_at now.bus.journals m)
  pub others : (m : ℕ) → m < setup.nodes → m ≢ node →
      journal_at now.bus.journals m ≡ journal_at was.bus.journals m
  pub ports : (m : ℕ) (p : Registers) → m ≢ node → slice_index_or now.ports m p ≡ slice_index_or was.ports m p
  pub logs : (m : ℕ) (d : LoggedDriver) → m < setup.nodes →
      (log_of (slice_index_or now.drivers m d)).done ≡ (log_of (slice_index_or was.drivers m d)).done
  pub kept : (m : ℕ) (d : LoggedDriver) → m < setup.nodes →
      kept_of (slice_index_or now.drivers m d) ≡ kept_of (slice_index_or was.drivers m d)

-- of a write that was these acts so far the next part was done, if there is one, and the write went on by it
pub record DoesPart (setup : Setup) (was now : SerialValue) (node : ℕ) (step_runs : List (List StepRun))
    (more : List TypedAct) (part : Option Step) (on on_now : Written) : Type 0 where
  pub acts : List TypedAct
  pub steps : map (λ (d : TypedAct). d.step) acts ≡ listed part
  pub does : DoesActs setup was now node step_runs (more ++ acts)
  pub left : on_now ≡ written_by on acts

-- such a write as it begins, by the registers of its node and by what is kept for its driver
abbrev pub written_first : SerialValue → ℕ → ℕ → ℕ → LoggedDriver → Registers → Written
written_first r node address value d p =
    written_at (slice_index_or r.ports node p) (kept_of (slice_index_or r.drivers node d)) address value

abbrev pub BeginsWrite : SerialValue → ℕ → ℕ → ℕ → Written → Type 0
BeginsWrite r node address value written =
    (d : LoggedDriver) (p : Registers) → written ≡ written_first r node address value d p

-- of a driver that knows addresses and bytes alone a write of this value to this address is these acts
abbrev pub IsSteps : Setup → SerialValue → ℕ → ℕ → ℕ → List Step → Type 0
IsSteps setup r node address value steps = (step_runs : List (List StepRun)) → StandsBy setup r step_runs →
    (p : Registers) → write_steps (slice_index_or r.ports node p) (is_active (acts_in (step_runs_at step_runs node)))
    address value ≡ steps

-- a step of a node is entered as done in its driver's log, with this answer, after the bits that had run, and these
-- bytes are kept for it
pub record Enters (was now : SerialValue) (node : ℕ) (answer : StepAnswer) (kept : UnmodelledRegisters) : Type 0 where
  pub driver : LoggedDriver
  pub set : now ≡ record was { drivers = slice_set was.drivers node driver }
  pub is : (d : LoggedDriver) → driver ≡ record (slice_index_or was.drivers node d) {
    kept = kept;
    log = record (log_of (slice_index_or was.drivers node d)) { done = (log_of driver).done };
  }
  pub done : (d : LoggedDriver) → done_in (log_of driver)
      ≡ done_in (log_of (slice_index_or was.drivers node d)) ++ record { answer = answer; bits = was.bits } ∷ []
  pub room : (d : LoggedDriver) →
      done_room (log_of driver) ≡ done_room (log_of (slice_index_or was.drivers node d))
