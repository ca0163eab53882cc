-- The steps of a driver in its thread.
use Rattle.std.specs.Prelude.{◌≡◌, ◌++◌, ◌≤◌, ◌<◌, ◌⊎◌, ℕ, Bool, true, false, List, [], ◌∷◌, length, map}
use Rattle.can_frame.specs.declared.buffer_view.BufferView.{BufferView}
use Rattle.sja_link.specs.declared.driver_end.DriverEnd.{Ghosts as Ends}
use Rattle.sja_regs.specs.declared.registers.Registers.{Registers}
use Rattle.sja_regs.specs.Addresses.{register_at}
use Rattle.sja_regs.specs.DriverSettings.{HasSettings}
use Rattle.sja_regs.specs.Reading.{or_no_register, value_at}
use Rattle.sja_steps.specs.declared.step.Step.{Step}
use Rattle.sja_steps.specs.declared.step.Step.TheVariants.{Read, Write, At}
use Rattle.sja_steps.specs.declared.refusal.Refusal.TheVariants.{Closed}
use Rattle.sja_steps.specs.declared.step_answer.StepAnswer.{StepAnswer}
use Rattle.sja_steps.specs.declared.step_answer.StepAnswer.TheVariants.{Done as DoneAnswer, Refused, Value}
use Rattle.sja_driver.specs.StepRuns.{StepRun, acts_in, step_record_of}
use Rattle.sja_driver.specs.Answers.{value_answer}
use Rattle.sja_driver.specs.AnyDrivers.{is_out}
use Rattle.sja_driver.specs.TypedActs.{TypedAct, is_active}
use Rattle.sja_driver.specs.LoggedDrivers.{driver_of, log_of, kept_of, IsLawful}
use Rattle.sja_driver.specs.Logs.{Traces, done_in, done_room}
use Rattle.sja_driver.specs.declared.unmodelled_registers.UnmodelledRegisters.{UnmodelledRegisters}
use Rattle.sja_driver.specs.declared.written.Written.{Written}
use Rattle.sja_driver.specs.Reads.{value_by_bytes}
use Rattle.sja_driver.specs.Writes.{write_steps}
use Rattle.sja_driver.specs.Written.{written_at}
use Rattle.sja_threads.specs.declared.order.Order.{Ghosts as Orders}
use Rattle.sja_threads.specs.declared.driver_thread.DriverThread.{DriverThread}
use Rattle.sja_thread_promises.specs.Counting.{AreCounted, IsCounted}
use Rattle.sja_thread_promises.specs.Accessing.{IsStepRunAt, LeadToStepRuns, IsBrokenOff, Work, Follows, acts_done}
use Rattle.sja_threads.specs.Inside.Steps.{Does, EntersNone, room_taken}

-- ---- one step

-- of a driver that knows addresses and bytes alone (`true`) no write, and no wait for a bit; so one act
abbrev pub HasOneAct : Bool → Step → Type 0
HasOneAct true (Write address value) = ⊥
HasOneAct true (At least) = ⊥
HasOneAct bytes other = Unit {0}

-- a wait until so many bits have run ends with this answer after so many: it is done, or given up before
abbrev pub EndsWait : ℕ → StepAnswer × ℕ → Type 0
EndsWait least end =
    ((end.0 ≡ DoneAnswer) × (least ≤ end.1)) ⊎ ((end.0 ≡ Refused Closed) × (end.1 < least))

-- what a step answers whose act answered this, of a driver that knows addresses and bytes alone or doesn't: then a
-- read the value of the register that stands there, or of the kept one, or 0; any other step the same
abbrev pub IsTold : Bool → UnmodelledRegisters → Step → StepAnswer → StepAnswer → Type 0
IsTold true kept (Read address) given answer =
    (value : ℕ) × (answer ≡ Value value)
    × ((p : Registers) (seen : BufferView) → given ≡ value_answer (or_no_register (value_at p seen
    (register_at p.mode.rm
    address))) → value ≡ value_by_bytes p kept seen address)
IsTold bytes kept other given answer = answer ≡ given

-- a write began at registers that have what the driver had set: it is these steps then, and begins so
pub record BeginsWrite {N E : Type 0} {o : Orders N} (t : DriverThread N E o) (address value : ℕ)
    (steps : List Step) (written : Written) : Type 0 where
  pub at : Registers
  pub has : HasSettings at t.set
  pub steps_are : steps ≡ write_steps at (is_out (driver_of t.driver)) address value
  pub begun : written ≡ written_at at (kept_of t.driver) address value

-- a driver did this step, and its log has it as done
pub record DoesStep {N E : Type 0} {o : Orders N} (e : Ends E) (was now : DriverThread N E o) (step : Step) :
    Type 0 where
  pub step_run : StepRun
  pub step_is : step_run.step ≡ step
  pub does : Does e was now step_run.acts
  pub few : room_taken step_run.acts ≤ 1
  pub counts : IsCounted was.found step_run
  pub found : now.found ≡ step_run.bits
  pub is : (before : List TypedAct) → Traces was.set.version (driver_of was.driver) (log_of was.driver) before →
      IsStepRunAt was.set.version was.set (is_active before) (kept_of was.driver) step_run (kept_of now.driver)
  pub done : done_in (log_of now.driver) ≡ done_in (log_of was.driver) ++ step_record_of step_run ∷ []
  pub room : done_room (log_of now.driver) ≡ done_room (log_of was.driver)

-- a gate quit in this step, whatever was to come: nothing of it was done, or some acts of a write
pub record BreaksOff {N E : Type 0} {o : Orders N} (e : Ends E) (was now : DriverThread N E o) (step : Step) :
    Type 0 where
  pub acts : List TypedAct
  pub does : Does e was now acts
  pub counts : AreCounted was.found acts
  pub none : EntersNone was.driver now.driver
  pub lawful : IsLawful now.driver
  pub broken : (left : List Step) →
      IsBrokenOff was.set.version was.set (is_out (driver_of was.driver)) (step ∷ left) acts

-- ---- one after the other

-- a driver that began so did these steps of its script, each once and in this order
pub record HasDone {N E : Type 0} {o : Orders N} (e : Ends E) (first now : DriverThread N E o) (steps : List Step) :
    Type 0 where
  pub step_runs : List StepRun
  pub does : Does e first now (acts_in step_runs)
  pub leads : LeadToStepRuns first.set.version first.set step_runs now.set (kept_of now.driver) now.found
  pub steps_are : map (λ (a : StepRun). a.step) step_runs ≡ steps
  pub done_are : map step_record_of step_runs ≡ done_in (log_of now.driver)

-- it ended so with its script: what it did of these steps
pub record HasEnded {N E : Type 0} {o : Orders N} (e : Ends E) (quits : Bool) (first now : DriverThread N E o)
    (steps : List Step) : Type 0 where
  pub work : Work
  pub does : Does e first now (acts_done work)
  pub lawful : IsLawful now.driver
  pub follows : Follows first.set.version first.set steps work
  pub done : map step_record_of work.step_runs ≡ done_in (log_of now.driver)
  pub all : quits ≡ false → length work.step_runs ≡ length steps
