-- What the driver alone sets of a port's registers (this project's own rule): a turn of the bus changes none of it but
-- RM, at bus-off.
use Rattle.std.specs.Prelude.{◌≡◌, ◌||◌, ◌&&◌, not, ℕ, true, false, if◌then◌else◌, Option, None, List, nat_le}
use Rattle.sja_regs.specs.declared.interrupts.Interrupts.{Interrupts}
use Rattle.sja_regs.specs.declared.mode.Mode.{Mode}
use Rattle.sja_regs.specs.declared.registers.Registers.{Registers}
use Rattle.sja_regs.specs.Registers.{after_entering_reset}

-- the version of the model, MOD, IER, EWLR, what was written to TXERR and RXERR, the acceptance codes and masks, and
-- the transmit buffer
pub record SettingsValue : Type 0 where
  pub version : ℕ
  pub mode : Mode
  pub enabled : Interrupts
  pub ewlr : ℕ
  pub set_tec : Option ℕ
  pub set_rec : Option ℕ
  pub acr : List ℕ
  pub amr : List ℕ
  pub buffer : List ℕ

-- what holds of the settings of every driver: version 1 has neither listen only mode nor self test mode, and error
-- counters are written in reset mode alone, from version 3 on alone
pub record SettingsFacts (version : ℕ) (mode : Mode) (set_tec set_rec : Option ℕ) : Type 0 where
  pub first_version : version ≡ 1 → (mode.lom ≡ false) × (mode.stm ≡ false)
  pub set : mode.rm ≡ false → (set_tec ≡ None) × (set_rec ≡ None)
  pub set_first : nat_le 3 version ≡ false → (set_tec ≡ None) × (set_rec ≡ None)

-- those of these registers
abbrev pub settings_in : Registers → SettingsValue
settings_in p = record {
  version = p.version;
  mode = p.mode;
  enabled = p.enabled;
  ewlr = p.ewlr;
  set_tec = p.set_tec;
  set_rec = p.set_rec;
  acr = p.acr;
  amr = p.amr;
  buffer = p.buffer;
}

-- these registers have these settings; reset mode may have been entered since
pub record HasSettings (p : Registers) (s : SettingsValue) : Type 0 where
  pub version : p.version ≡ s.version
  pub listen_only : p.mode.lom ≡ s.mode.lom
  pub self_test : p.mode.stm ≡ s.mode.stm
  pub filter_mode : p.mode.afm ≡ s.mode.afm
  pub reset : s.mode.rm ≡ true → p.mode.rm ≡ true
  pub enabled : p.enabled ≡ s.enabled
  pub ewlr : p.ewlr ≡ s.ewlr
  pub set_tec : p.set_tec ≡ s.set_tec
  pub set_rec : p.set_rec ≡ s.set_rec
  pub acr : p.acr ≡ s.acr
  pub amr : p.amr ≡ s.amr
  pub buffer : p.buffer ≡ s.buffer

-- reset mode is entered where these settings have it and the registers don't
abbrev pub with_reset : Registers → SettingsValue → Registers
with_reset p s = if s.mode.rm && not p.mode.rm then after_entering_reset p else p

-- the registers with these settings
abbrev pub with_settings : Registers → SettingsValue → Registers
with_settings p s =
    record (with_reset p s) {
      version = s.version;
      mode = record s.mode { rm = s.mode.rm || p.mode.rm };
      enabled = s.enabled;
      ewlr = s.ewlr;
      set_tec = s.set_tec;
      set_rec = s.set_rec;
      acr = s.acr;
      amr = s.amr;
      buffer = s.buffer;
    }
