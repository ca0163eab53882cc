-- What a read, a write and the leaving of reset mode keep, for anything that hangs on the registers.
use Rattle.std.proofs.Common.{◌≡◌, ◌==◌, ◌&&◌, not, ℕ, Bool, true, false, refl}
use Rattle.std.specs.Prelude.{if◌then◌else◌, Option, Some, None, slice_set, unwrap_or}
use Rattle.sja_regs.specs.declared.capture.Capture.{Capture}
use Rattle.sja_regs.specs.declared.interrupts.Interrupts.{Interrupts}
use Rattle.sja_regs.specs.declared.mode.Mode.{Mode as ModeBits}
use Rattle.sja_regs.specs.declared.register.Register.{Register}
use Rattle.sja_regs.specs.declared.register.Register.TheVariants.{Mode, Interrupt, InterruptEnable}
use Rattle.sja_regs.specs.declared.register.Register.TheVariants.{ArbitrationLostCapture, ErrorCodeCapture}
use Rattle.sja_regs.specs.declared.register.Register.TheVariants.{ErrorWarningLimit, AcceptanceCode, AcceptanceMask}
use Rattle.sja_regs.specs.declared.register.Register.TheVariants.{ReceiveErrorCounter, TransmitErrorCounter, Buffer}
use Rattle.sja_regs.specs.declared.registers.Registers.{Registers}
use Rattle.sja_regs.specs.Captures.{after_look}
use Rattle.sja_regs.specs.DriverSettings.{SettingsValue, settings_in}
use Rattle.sja_regs.specs.Interrupting.{interrupts_of, no_interrupt}
use Rattle.sja_regs.specs.Modes.{mode_of}
use Rattle.sja_regs.specs.Reading.{after_reading_at}
use Rattle.sja_regs.specs.Registers.{is_forced}
use Rattle.sja_regs.specs.Writing.{with_warning_limit, with_rxerr, after_forced_off, after_writing_at}

-- the registers with other values of all that a read may change: IR, ALC and ECC
abbrev pub with_read : Registers → Interrupts → Capture → Capture → Registers
with_read p pending alc ecc = record p { pending = pending; alc = alc; ecc = ecc }

-- what hangs on none of these is after a read what it was
pub read_keeps : {A : Type 0} (f : Registers → A) →
    ((q : Registers) (pending : Interrupts) (alc ecc : Capture) → f (with_read q pending alc ecc) ≡ f q) →
    (x : Option Register) (p : Registers) → f (after_reading_at p x) ≡ f p
read_keeps f same None p = refl
read_keeps f same (Some Interrupt) p = same p no_interrupt p.alc p.ecc
read_keeps f same (Some ArbitrationLostCapture) p = same p p.pending (after_look p.alc) p.ecc
read_keeps f same (Some ErrorCodeCapture) p = same p p.pending p.alc (after_look p.ecc)
read_keeps f same (Some other) p = refl

-- the registers with other values of all that a write may change: what the driver sets, and what the error counters,
-- bus-off and IR show
abbrev pub with_written : Registers → SettingsValue → Registers → Registers
with_written p s q =
    record p {
      mode = s.mode;
      enabled = s.enabled;
      ewlr = s.ewlr;
      set_tec = s.set_tec;
      set_rec = s.set_rec;
      acr = s.acr;
      amr = s.amr;
      buffer = s.buffer;
      txerr = q.txerr;
      rxerr = q.rxerr;
      bs = q.bs;
      frozen = q.frozen;
      pending = q.pending;
    }

module _ {A : Type 0} (f : Registers → A)
    (same : (q : Registers) (s : SettingsValue) (new : Registers) → f (with_written q s new) ≡ f q) where
  -- MOD was written
  mode_keeps : (off : Bool) (p : Registers) (new : ModeBits) →
      f (if off then after_forced_off (record p { mode = record new { rm = true } }) else record p { mode = new }) ≡ f p
  mode_keeps true p new =
      let q = after_forced_off (record p { mode = record new { rm = true } }) in same p (settings_in q) q
  mode_keeps false p new = same p (record (settings_in p) { mode = new }) p

  -- TXERR was written
  txerr_keeps : (off : Bool) (p : Registers) (v : ℕ) →
      f (if off then record p { txerr = v; set_tec = Some v }
      else record p { txerr = v; rxerr = unwrap_or p.set_rec p.rxerr; bs = false; set_tec = Some v }) ≡ f p
  txerr_keeps true p v =
      let q : Registers = record p { txerr = v; set_tec = Some v } in same p (settings_in q) q
  txerr_keeps false p v =
      let q : Registers = record p { txerr = v; rxerr = unwrap_or p.set_rec p.rxerr; bs = false; set_tec = Some v } in
      same p (settings_in q) q

  -- what hangs on none of these is after a write what it was
  pub write_keeps : (x : Option Register) (v : ℕ) (p : Registers) → f (after_writing_at p x v) ≡ f p
  write_keeps None v p = refl
  write_keeps (Some Mode) v p = mode_keeps (is_forced p && not (mode_of v).rm) p (mode_of v)
  write_keeps (Some InterruptEnable) v p = same p (record (settings_in p) { enabled = interrupts_of v }) p
  write_keeps (Some ErrorWarningLimit) v p = same p (record (settings_in p) { ewlr = v }) (with_warning_limit p v)
  write_keeps (Some ReceiveErrorCounter) v p = same p (settings_in (with_rxerr p v)) (with_rxerr p v)
  write_keeps (Some TransmitErrorCounter) v p = txerr_keeps (v == 255) p v
  write_keeps (Some (AcceptanceCode i)) v p = same p (record (settings_in p) { acr = slice_set p.acr i v }) p
  write_keeps (Some (AcceptanceMask i)) v p = same p (record (settings_in p) { amr = slice_set p.amr i v }) p
  write_keeps (Some (Buffer i)) v p = same p (record (settings_in p) { buffer = slice_set p.buffer i v }) p
  write_keeps (Some other) v p = refl

-- what the leaving of reset mode keeps stays, whether the port was in reset mode or not
pub leaving_keeps : {A : Type 0} (f : Registers → A) (rm : Bool) (p q : Registers) → f q ≡ f p →
    f (if rm then q else p) ≡ f p
leaving_keeps f true p q h = h
leaving_keeps f false p q h = refl
