-- What a driver's writes and loads left in the registers (this project's own rule).
use Rattle.std.specs.Prelude.{◌+◌, ◌||◌, not, ℕ, Bool, false, None, List}
use Rattle.std.specs.List.{fold}
use Rattle.sja_journal.specs.declared.entry.Entry.{Entry}
use Rattle.sja_regs.specs.declared.registers.Registers.{Registers}
use Rattle.sja_regs.specs.Addresses.{register_at}
use Rattle.sja_regs.specs.Registers.{at_power_on}
use Rattle.sja_regs.specs.Writing.{after_writing_at, after_loading}
use Rattle.sja_steps.specs.declared.step.Step.{Step}
use Rattle.sja_steps.specs.declared.step.Step.TheVariants.{Start, Write, Load}
use Rattle.sja_steps.specs.declared.step_answer.StepAnswer.{StepAnswer}
use Rattle.sja_steps.specs.declared.step_answer.StepAnswer.TheVariants.{Done}
use Rattle.sja_driver.specs.TypedActs.{TypedAct, opens_by, active_after}
use Rattle.sja_driver.specs.Windows.{off_by}

-- the registers in reset mode or out of it
abbrev pub in_mode : Bool → Registers → Registers
in_mode reset p = record p { mode = record p.mode { rm = reset } }

-- an accepted write or load sets registers, as they are in reset mode or out of it, and a start takes the error
-- counters with it that were written; no other step does
abbrev pub after_setting : Bool → Registers → Step → StepAnswer → Registers
after_setting reset p (Write address value) Done =
    after_writing_at (in_mode reset p) (register_at reset address) value
after_setting reset p (Load m) Done = after_loading p m
after_setting reset p Start Done = record p { set_tec = None; set_rec = None }
after_setting reset p other answer = p

-- a driver after some acts: whether it is active, how many activations it opened, and what it has set
pub record Standing : Type 0 where
  pub active : Bool
  pub activation : ℕ
  pub registers : Registers

-- the controller is in reset mode where its driver isn't active, and from bus-off on
abbrev pub after_act : List Entry → Standing → TypedAct → Standing
after_act j s d = record {
  active = active_after s.active d.step d.answer;
  activation = s.activation + opens_by d;
  registers = after_setting (not s.active || off_by d.bits j s.activation) s.registers d.step d.answer;
}

-- what these acts have set, from power-on
abbrev pub settings_of : ℕ → List Entry → List TypedAct → Registers
settings_of version j acts =
    (fold (after_act j) (record { active = false; activation = 0; registers = at_power_on version }) acts).registers
