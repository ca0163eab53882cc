-- The registers of a node's port through a run in one thread (this project's own rule).
use Rattle.std.specs.Prelude.{◌≡◌, ◌<◌, ℕ, Bool, true, false, List, [], ◌∷◌, ◌++◌, length, slice_index_or}
use Rattle.can_levels.specs.declared.level.Level.{Level}
use Rattle.can_frame.specs.declared.buffer_view.BufferView.{BufferView}
use Rattle.sja_journal.specs.declared.entry.Entry.{Entry}
use Rattle.sja_journal.specs.Places.{place_of}
use Rattle.sja_link.specs.Showing.{seen_of}
use Rattle.sja_regs.specs.declared.bus_turn.BusTurn.{BusTurn}
use Rattle.sja_regs.specs.declared.registers.Registers.{Registers}
use Rattle.sja_regs.specs.InterruptLine.{is_line_active}
use Rattle.sja_regs.specs.Registers.{at_power_on}
use Rattle.sja_regs.specs.Turns.{after_turn}
use Rattle.sja_journal.specs.Aborting.{IsApplied}
use Rattle.sja_journal.specs.BitEntries.{HasBit, abort_as, entries_of_items}
use Rattle.sja_bus_rules.specs.Telling.{IsTurn}
use Rattle.sja_driver.specs.Carried.{Tells, carried, ported}
use Rattle.sja_driver.specs.declared.unmodelled_registers.UnmodelledRegisters.{UnmodelledRegisters}
use Rattle.sja_driver.specs.StepRuns.{StepRun, IsStepRun, step_runs_at, acts_in}
use Rattle.sja_driver.specs.TypedActs.{TypedAct, opened_by, is_active}
use Rattle.sja_driver.specs.Kept.{at_power_on as kept_at_power_on}
use Rattle.sja_driver.specs.Drivers.{nothing_seen}
use Rattle.sja_plan.specs.Plan.{PlanValue}
use Rattle.sja_log.specs.Log.{NodeValue, RunValue}
use Rattle.sja_driver.specs.Windows.{off_by, window_of}

-- what a read of the registers sees of the messages after these entries and acts: out of reset what was put by then in
-- the activation and not released, in reset nothing
abbrev pub seen_now : Bool → List Entry → List TypedAct → BufferView
seen_now true j acts =
    let bits = (place_of j).bits in seen_of (off_by bits j (opened_by acts)) (window_of j acts bits)
seen_now false j acts = nothing_seen

-- one bit of a node whose port had registers p before it and has q after it: an abort that stands there is applied, and
-- the port is told what the bit brought
pub record IsPortBit (p q : Registers) (j k : List Entry) : Type 0 where
  -- an abort that stands changes the node as an abort does there; without one it isn't changed
  pub changed : Bool
  pub applied : p.abort ≡ true → IsApplied j changed
  pub unasked : p.abort ≡ false → changed ≡ false
  -- the node drove and saw these levels
  pub driven : Level
  pub seen : Level
  pub bit : HasBit (j ++ abort_as changed) driven seen k
  -- and this turn of the bus is what that brought
  pub turn : BusTurn
  pub is_turn : IsTurn changed (j ++ abort_as changed) driven seen k bit turn
  pub told : q ≡ after_turn p turn

-- one act of a driver that did others before, at a port that had registers p before it and has q after it: it is
-- answered by the registers before it, and by what it sees; by them it gives, which is taken at once, and leaves other
-- registers
pub record IsPortAct (p q : Registers) (j k : List Entry) (before : List TypedAct) (d : TypedAct) : Type 0 where
  pub now : d.bits ≡ (place_of j).bits
  pub tells : Tells d.step (is_active before) p (seen_now (is_active before) j before) d.answer
  pub gave : d.gave ≡ carried p d.step d.answer
  pub taken : k ≡ j ++ entries_of_items d.gave
  pub left : q ≡ ported p d.step d.answer

-- from power-on in this version of the model these entries and acts lead to these registers
pub data LeadTo (version : ℕ) : List Entry → List TypedAct → Registers → Type 0 where
  power_on : LeadTo version [] [] (at_power_on version)
  act : (j k : List Entry) (acts : List TypedAct) (d : TypedAct) (p q : Registers) → LeadTo version j acts p →
      IsPortAct p q j k acts d → LeadTo version k (acts ++ d ∷ []) q
  bit : (j k : List Entry) (acts : List TypedAct) (p q : Registers) → LeadTo version j acts p → IsPortBit p q j k →
      LeadTo version k acts q

-- ---- by accesses

-- of a driver that did others before, these acts lead on, one right after the other, from entries and registers to
-- others
pub data LeadOn (before : List TypedAct) (j : List Entry) (p : Registers) :
    List TypedAct → List Entry → Registers → Type 0 where
  nothing_more : LeadOn before j p [] j p
  one_more : (acts : List TypedAct) (d : TypedAct) (k l : List Entry) (q r : Registers) → LeadOn before j p acts k q →
      IsPortAct q r k l (before ++ acts) d → LeadOn before j p (acts ++ d ∷ []) l r

-- from power-on in this version of the model these entries and accesses lead to these kept bytes and these registers
pub data StepRunsLeadTo (version : ℕ) : List Entry → List StepRun → UnmodelledRegisters → Registers → Type 0 where
  power_on : StepRunsLeadTo version [] [] kept_at_power_on (at_power_on version)
  step_run : (j k : List Entry) (step_runs : List StepRun) (a : StepRun) (kept kept_now : UnmodelledRegisters)
      (p q : Registers) →
      StepRunsLeadTo version j step_runs kept p → a.bits ≡ (place_of j).bits →
      IsStepRun version p (seen_now (is_active (acts_in step_runs)) j (acts_in step_runs))
      (is_active (acts_in step_runs)) kept a kept_now → LeadOn (acts_in step_runs) j p a.acts k q →
      StepRunsLeadTo version k (step_runs ++ a ∷ []) kept_now q
  bit : (j k : List Entry) (step_runs : List StepRun) (kept : UnmodelledRegisters) (p q : Registers) →
      StepRunsLeadTo version j step_runs kept p → IsPortBit p q j k → StepRunsLeadTo version k step_runs kept q

-- ---- the interrupt line, and the whole run

-- from power-on in this version these entries and acts lead to registers by which, with what is seen of the messages
-- then, the interrupt line isn't active
pub record IsLineInactive (version : ℕ) (j : List Entry) (acts : List TypedAct) : Type 0 where
  pub registers : Registers
  pub lead : LeadTo version j acts registers
  pub inactive : is_line_active registers (seen_now (is_active acts) j acts) ≡ false

-- the same, and it is
pub record IsLineActive (version : ℕ) (j : List Entry) (acts : List TypedAct) : Type 0 where
  pub registers : Registers
  pub lead : LeadTo version j acts registers
  pub active : is_line_active registers (seen_now (is_active acts) j acts) ≡ true

-- of each node the entries and accesses lead to some registers: so each step was answered by those that the steps and
-- bits before it left
abbrev pub HaveRegisters : PlanValue → RunValue → List (List StepRun) → Type 0
HaveRegisters plan log step_runs = (k : ℕ) (d : NodeValue) → k < length log.nodes → (kept : UnmodelledRegisters)
    × (p : Registers)
    × StepRunsLeadTo plan.version (slice_index_or log.nodes k d).journal (step_runs_at step_runs k) kept p
