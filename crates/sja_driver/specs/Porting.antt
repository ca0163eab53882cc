-- The port of a node of a run in one thread, between two steps (this project's own rule).
use Rattle.std.specs.Prelude.{◌≡◌, ◌||◌, not, ℕ, Bool, true, false, List}
use Rattle.sja_journal.specs.declared.entry.Entry.{Entry}
use Rattle.sja_journal.specs.Places.{place_of}
use Rattle.sja_regs.specs.declared.registers.Registers.{Registers}
use Rattle.sja_driver.specs.TypedActs.{TypedAct, opened_by, is_active}
use Rattle.sja_driver.specs.Windows.{off_by}
use Rattle.sja_driver.specs.Settings.{settings_of}
use Rattle.sja_driver.specs.Aborting.{IsCommanded}
use Rattle.sja_driver.specs.Alike.{AreAlike}

-- the controller is in reset mode where its driver isn't active, and from bus-off on
abbrev pub is_reset : List Entry → List TypedAct → Bool
is_reset j acts = not (is_active acts) || off_by (place_of j).bits j (opened_by acts)

-- it is of this version; its settings are those that the acts have set, reset mode is as it must be, its activation is
-- the driver's last one,
-- the bits aren't spent, and an abort that stands was commanded
pub record IsPorted (version : ℕ) (j : List Entry) (acts : List TypedAct) (p : Registers) : Type 0 where
  pub version_is : p.version ≡ version
  pub set : AreAlike p (settings_of version j acts)
  pub reset : p.mode.rm ≡ is_reset j acts
  pub activation : p.activation ≡ opened_by acts
  pub unclosed : p.closed ≡ false
  pub commanded : p.abort ≡ true → IsCommanded acts j
