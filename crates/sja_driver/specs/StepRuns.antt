-- The steps of a driver as its author has them, and the acts that they are (this project's own rule). In versions 1
-- and 2 a step is one act. In version 3 a read and a write are those of a driver that knows addresses and bytes alone,
-- and a wait for a bit is no act.
use Rattle.std.specs.Prelude.{◌≡◌, ◌<◌, ◌≤◌, ◌⊎◌, ◌*◌, ℕ, Bool, true, if◌then◌else◌, List, [], ◌∷◌, map, nat_lt}
use Rattle.std.specs.Prelude.{slice_index_or}
use Rattle.can_frame.specs.declared.buffer_view.BufferView.{BufferView}
use Rattle.lemmas.specs.Gathering.{gathered}
use Rattle.sja_regs.specs.declared.registers.Registers.{Registers}
use Rattle.sja_steps.specs.declared.step_record.StepRecord.{StepRecord}
use Rattle.sja_steps.specs.declared.step.Step.{Step}
use Rattle.sja_steps.specs.declared.step.Step.TheVariants.{Read, Write, At}
use Rattle.sja_steps.specs.declared.step_answer.StepAnswer.{StepAnswer}
use Rattle.sja_steps.specs.declared.step_answer.StepAnswer.TheVariants.{Done as DoneAnswer, Value, Refused}
use Rattle.sja_steps.specs.declared.refusal.Refusal.TheVariants.{Closed}
use Rattle.sja_driver.specs.declared.unmodelled_registers.UnmodelledRegisters.{UnmodelledRegisters}
use Rattle.sja_driver.specs.TypedActs.{TypedAct}
use Rattle.sja_driver.specs.Ignoring.{ignored_by, write_answer}
use Rattle.sja_driver.specs.Kept.{kept_after, moved_by_answer}
use Rattle.sja_driver.specs.Reads.{value_by_bytes}
use Rattle.sja_driver.specs.Writes.{write_steps}

-- a step that was done: its answer, the number of bits run before it, and the acts that it was, one after the other
pub record StepRun : Type 0 where
  pub step : Step
  pub answer : StepAnswer
  pub bits : ℕ
  pub acts : List TypedAct

-- as a log has it
abbrev pub step_record_of : StepRun → StepRecord
step_record_of a = record { answer = a.answer; bits = a.bits }

-- the acts that some of them were, in order
abbrev pub acts_in : List StepRun → List TypedAct
acts_in step_runs = gathered (λ (a : StepRun). a.acts) step_runs

-- of a list of them for each node those of this one
abbrev pub step_runs_at : List (List StepRun) → ℕ → List StepRun
step_runs_at step_runs node = slice_index_or step_runs node []

-- ---- what one is

-- reads and writes are those of a driver that knows addresses and bytes alone
abbrev pub by_bytes : ℕ → Bool
by_bytes version = nat_lt 2 version

-- a step that is one act in any case, and is answered as it
abbrev pub IsOneAct : Bool → Step → Type 0
IsOneAct true (Read address) = ⊥
IsOneAct true (Write address value) = ⊥
IsOneAct true (At bits) = ⊥
IsOneAct bytes one = Unit {0}

-- the steps of the acts that a step is, at these registers, of a driver that is out of reset or isn't
abbrev pub act_steps : Bool → Registers → Bool → Step → List Step
act_steps true p active (Write address value) = write_steps p active address value
act_steps true p active (At bits) = []
act_steps bytes p active one = one ∷ []

-- what it answers once so many bits have run: a read the value of the register that stands there, or of the kept one,
-- or 0; a write is done, and says why the controller ignored it, if it did; a wait for a bit is done where so many bits
-- have run, and given up only where fewer have and they are spent; any other step answers as its one act does
abbrev pub Answers : Bool → Registers → BufferView → UnmodelledRegisters → ℕ → Step → List TypedAct → StepAnswer →
    Type 0
Answers true p seen kept bits (Read address) acts answer = answer ≡ Value (value_by_bytes p kept seen address)
Answers true p seen kept bits (Write address value) acts answer =
    answer ≡ write_answer (ignored_by p address value acts)
Answers true p seen kept bits (At least) acts answer =
    ((answer ≡ DoneAnswer) × (least ≤ bits))
    ⊎ ((answer ≡ Refused Closed) × (bits < least) × (p.closed ≡ true))
Answers bytes p seen kept bits one acts answer = map (λ (d : TypedAct). d.answer) acts ≡ answer ∷ []

-- what acts leave of the kept registers: each release moves RBSA on
abbrev pub kept_by : UnmodelledRegisters → List TypedAct → UnmodelledRegisters
kept_by kept [] = kept
kept_by kept (d ∷ acts) = kept_by (moved_by_answer kept d.answer) acts

-- before that a write leaves its value in the kept register that stands there, if it takes it
abbrev pub kept_written : Registers → UnmodelledRegisters → Step → UnmodelledRegisters
kept_written p kept (Write address value) = kept_after kept p.mode.rm address value
kept_written p kept one = kept

-- in this version, at these registers of its port, with what is seen of the messages, and with these bytes kept, this
-- is what a driver did that is out of reset or isn't; then those are kept
pub record IsStepRun (version : ℕ) (p : Registers) (seen : BufferView) (active : Bool) (kept : UnmodelledRegisters)
    (a : StepRun)
    (kept_now : UnmodelledRegisters) : Type 0 where
  pub steps : map (λ (d : TypedAct). d.step) a.acts ≡ act_steps (by_bytes version) p active a.step
  pub answer : Answers (by_bytes version) p seen kept a.bits a.step a.acts a.answer
  pub left : kept_now ≡ kept_by (kept_written p kept a.step) a.acts

-- ---- how many there may be

-- how many acts so many steps may be: by addresses and bytes a write is three at most
abbrev pub most_acts : ℕ → ℕ → ℕ
most_acts version steps = if by_bytes version then 3 * steps else steps
