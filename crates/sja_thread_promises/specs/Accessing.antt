-- What a driver in a thread of its own did of its script (this project's own rule): each step is some acts, one after
-- the other, and the bus goes on meanwhile.
use Rattle.std.specs.Prelude.{◌≡◌, ◌++◌, ◌≤◌, ℕ, Bool, true, List, [], ◌∷◌, drop, length, map, take}
use Rattle.std.specs.Prelude.{slice_index_or}
use Rattle.can_frame.specs.declared.buffer_view.BufferView.{BufferView}
use Rattle.sja_regs.specs.declared.registers.Registers.{Registers}
use Rattle.sja_regs.specs.DriverSettings.{SettingsValue, settings_in, HasSettings}
use Rattle.sja_steps.specs.declared.step.Step.{Step}
use Rattle.sja_steps.specs.declared.step.Step.TheVariants.{Read, Write}
use Rattle.sja_driver.specs.StepRuns.{StepRun, IsStepRun, by_bytes, acts_in}
use Rattle.sja_driver.specs.Carried.{Tells, ported}
use Rattle.sja_driver.specs.TypedActs.{TypedAct, is_active}
use Rattle.sja_driver.specs.declared.unmodelled_registers.UnmodelledRegisters.{UnmodelledRegisters}
use Rattle.sja_driver.specs.Kept.{at_power_on}
use Rattle.sja_driver.specs.Writes.{write_steps}
use Rattle.sja_thread_promises.specs.Counting.{AreCounted, IsCounted}
use Rattle.sja_thread_promises.specs.Setting.{IsDoneAt}

-- ---- what was set

-- of a driver that did these acts before, more of them lead on from settings to others: each is done at registers that
-- have the settings which those before it have left, and leaves what it leaves
pub data LeadOn (before : List TypedAct) (from : SettingsValue) : List TypedAct → SettingsValue → Type 0 where
  nothing_more : LeadOn before from [] from
  one_more : (acts : List TypedAct) (d : TypedAct) (s : SettingsValue) (p : Registers) → LeadOn before from acts s →
      HasSettings p s → IsDoneAt (is_active (before ++ acts)) p d →
      LeadOn before from (acts ++ d ∷ []) (settings_in (ported p d.step d.answer))

-- ---- one step

-- a driver that had this set, that was out of reset or wasn't, and for which these bytes were kept, did this; then
-- those are kept. It is what any driver does at some registers that the port had meanwhile, after as many bits as it
-- counts: they have what was set, TBS is as the bus left it then, and RM may be 1 by bus-off
pub record IsStepRunAt (version : ℕ) (set : SettingsValue) (active : Bool) (kept : UnmodelledRegisters) (a : StepRun)
    (kept_now : UnmodelledRegisters) : Type 0 where
  pub at : Registers
  pub seen : BufferView
  pub has : HasSettings at set
  pub is : IsStepRun version at seen active kept a kept_now
  -- of a read these are the registers and the messages by which its act was answered
  pub read : (address : ℕ) (d : TypedAct) → a.step ≡ Read address → a.acts ≡ d ∷ [] →
      Tells (Read address) active at seen d.answer

-- ---- one after the other

-- from what a driver had set first, and from the bytes kept after power-on, its steps lead on: each is some acts more,
-- at what the steps before it have left, and counts bits on from theirs
pub data LeadToStepRuns (version : ℕ) (first : SettingsValue) :
    List StepRun → SettingsValue → UnmodelledRegisters → ℕ → Type 0 where
  nothing_done : LeadToStepRuns version first [] first at_power_on 0
  step_run_done : (step_runs : List StepRun) (a : StepRun) (s t : SettingsValue) (kept kept_now : UnmodelledRegisters)
      (found : ℕ) →
      LeadToStepRuns version first step_runs s kept found → LeadOn (acts_in step_runs) s a.acts t →
      IsStepRunAt version s (is_active (acts_in step_runs)) kept a kept_now → IsCounted found a →
      LeadToStepRuns version first (step_runs ++ a ∷ []) t kept_now a.bits

-- ---- the end

-- of the steps that weren't done the first was a write of a driver that knows addresses and bytes alone, of which some
-- acts were done, and not all: a gate quit before it was tried again; or nothing was
pub data IsBrokenOff (version : ℕ) (set : SettingsValue) (active : Bool) : List Step → List TypedAct → Type 0 where
  not_begun : {left : List Step} → IsBrokenOff version set active left []
  begun : {left : List Step} {acts : List TypedAct} (address value : ℕ) (at : Registers) (rest : List Step) →
      by_bytes version ≡ true → HasSettings at set →
      write_steps at active address value ≡ map (λ (d : TypedAct). d.step) acts ++ rest → 1 ≤ length rest →
      IsBrokenOff version set active (Write address value ∷ left) acts

-- what a driver did of its script: the steps that were done, and the acts of a write that a gate broke off
pub record Work : Type 0 where
  pub step_runs : List StepRun
  pub broken : List TypedAct

abbrev pub acts_done : Work → List TypedAct
acts_done w = acts_in w.step_runs ++ w.broken

-- of what was done by each node that of this one
abbrev pub no_work : Work
no_work = record { step_runs = []; broken = [] }

abbrev pub work_at : List Work → ℕ → Work
work_at works node = slice_index_or works node no_work

-- that is what a driver did in this version that had this set first, and whose script has these steps: a front of them,
-- each at what those before it have left, and of the next one no more than some acts of a write
pub record Follows (version : ℕ) (set : SettingsValue) (steps : List Step) (w : Work) : Type 0 where
  pub first : map (λ (a : StepRun). a.step) w.step_runs ≡ take (length w.step_runs) steps
  pub last : SettingsValue
  pub kept : UnmodelledRegisters
  pub found : ℕ
  pub leads : LeadToStepRuns version set w.step_runs last kept found
  pub counted : AreCounted found w.broken
  pub broken : IsBrokenOff version last (is_active (acts_in w.step_runs)) (drop (length w.step_runs) steps) w.broken
