-- What the steps of a driver in a thread of its own answer by, and what they set (this project's own rule). The bus
-- goes on meanwhile, so status, interrupts, captures and counters may be any at each step; what the driver alone sets
-- is what its steps have set.
use Rattle.std.specs.Prelude.{◌≡◌, ◌++◌, ℕ, Bool, true, List, [], ◌∷◌}
use Rattle.sja_link.specs.Showing.{seen_of}
use Rattle.sja_regs.specs.declared.registers.Registers.{Registers}
use Rattle.sja_regs.specs.DriverSettings.{SettingsValue, settings_in, HasSettings}
use Rattle.sja_driver.specs.Carried.{Sees, Tells, carried, ported}
use Rattle.sja_driver.specs.TypedActs.{TypedAct, is_active}

-- a step of a driver that is out of reset or isn't was done at these registers: it answers by them and by some window,
-- and gives what it gives by them
pub record IsDoneAt (active : Bool) (p : Registers) (d : TypedAct) : Type 0 where
  pub window : List (List ℕ)
  pub off : Bool
  pub tells : Tells d.step active p (seen_of off window) d.answer
  pub sees : active ≡ true → Sees d.step off window d.answer
  pub gave : d.gave ≡ carried p d.step d.answer

-- from settings of the driver its acts lead to others: each step is done at registers that have the settings which
-- the steps before it have left, and leaves what it leaves
pub data LeadToSettings (first : SettingsValue) : List TypedAct → SettingsValue → Type 0 where
  nothing_done : LeadToSettings first [] first
  step_done : (acts : List TypedAct) (d : TypedAct) (s : SettingsValue) (p : Registers) → LeadToSettings first acts s →
      HasSettings p s → IsDoneAt (is_active acts) p d →
      LeadToSettings first (acts ++ d ∷ []) (settings_in (ported p d.step d.answer))
