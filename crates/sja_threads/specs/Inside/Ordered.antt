-- A port behind its lock, with the lists of what came there.
use Rattle.std.specs.Prelude.{◌≡◌, ℕ, Option, Some, None, List, [], ◌∷◌}
use Rattle.sja_regs.specs.declared.registers.Registers.{Registers}
use Rattle.sja_regs.specs.DriverSettings.{SettingsValue, settings_in}
use Rattle.sja_regs.specs.Registers.{at_power_on}
use Rattle.sja_steps.specs.declared.step.Step.{Step}
use Rattle.sja_steps.specs.declared.step_answer.StepAnswer.{StepAnswer}
use Rattle.sja_thread_promises.specs.declared.port_act.PortAct.{PortAct}
use Rattle.sja_thread_promises.specs.declared.port_update.PortUpdate.{PortUpdate}
use Rattle.sja_thread_promises.specs.Ordering.{LedBy, bits_told}
use Rattle.sja_threads.specs.Inside.Names.{IsNamed}

-- a port of a node, how many bits have run by what it was told, and the lists of what it was told and of its driver's
-- acts there, with their names
pub record LockedValue : Type 0 where
  pub node : ℕ
  pub registers : Registers
  pub bits : ℕ
  pub turns_name : ℕ
  pub turns : List PortUpdate
  pub acts_name : ℕ
  pub acts : List PortAct

-- the port is as its lists have led to, and these are those of its node
pub record IsInOrder (version : ℕ) (turn_names act_names : List ℕ) (l : LockedValue) : Type 0 where
  pub turns : IsNamed turn_names l.node l.turns_name
  pub acts : IsNamed act_names l.node l.acts_name
  pub bits : l.bits ≡ bits_told l.turns
  pub led : LedBy version l.turns l.acts l.registers

-- what is set at a port of this version after these acts
abbrev pub set_after : ℕ → List PortAct → SettingsValue
set_after version [] = settings_in (at_power_on version)
set_after version (d ∷ []) = d.set
set_after version (d ∷ next ∷ acts) = set_after version (next ∷ acts)

-- the act of a step with this answer after so many bits, if it is done
abbrev pub done_if : Step → Option StepAnswer → ℕ → List (Step × StepAnswer × ℕ)
done_if this None bits = []
done_if this (Some answer) bits = (this, answer, bits) ∷ []
