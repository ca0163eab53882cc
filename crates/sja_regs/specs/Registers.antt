-- What a port keeps, as a whole: after power-on, what follows, and reset mode (SJA1000 data sheet, 6.4.2 to 6.4.6).
use Rattle.std.specs.Prelude.{◌+◌, ◌-◌, ◌^◌, ◌==◌, ◌||◌, ◌&&◌, min, nat_le, ℕ, Bool, true, false, if◌then◌else◌, None}
use Rattle.std.specs.Prelude.{is_some, replicate}
use Rattle.can_node_rules.specs.declared.config.Config.{Config}
use Rattle.sja_regs.specs.declared.registers.Registers.{Registers}
use Rattle.sja_regs.specs.declared.status.Status.{Status}
use Rattle.sja_regs.specs.declared.interrupts.Interrupts.{Interrupts}
use Rattle.can_frame.specs.declared.buffer_view.BufferView.{BufferView}
use Rattle.sja_regs.specs.declared.error_state.ErrorState.{ErrorState}
use Rattle.sja_regs.specs.ErrorStates.{is_warning, is_passive, causes_between}
use Rattle.sja_regs.specs.Interrupting.{no_interrupt, pending_after}

-- after power-on (SJA1000 data sheet, 6.4.2, reset values; those of IER, ACR, AMR and the transmit buffer are this
-- project's own rule): MOD 01, SR 3c, EWLR 60, AMR ff, all others 00
abbrev pub at_power_on : ℕ → Registers
at_power_on version =
    record {
      version = version;
      activation = 0;
      mode = record { rm = true; lom = false; stm = false; afm = false };
      dos = false;
      tbs = true;
      tcs = true;
      rs = true;
      ts = true;
      bs = false;
      pending = no_interrupt;
      enabled = no_interrupt;
      alc = record { value = 0; was_read = true };
      ecc = record { value = 0; was_read = true };
      ewlr = 96;
      rxerr = 0;
      txerr = 0;
      set_tec = None;
      set_rec = None;
      frozen = record { es = false; bs = false; passive = false };
      acr = replicate 4 0;
      amr = replicate 4 255;
      buffer = replicate 13 0;
      abort = false;
      ended = false;
      closed = false;
    }

-- a version for drivers that know addresses and bytes alone: from 3 on (this project's own rule)
abbrev pub by_bytes : Registers → Bool
by_bytes p = nat_le 3 p.version

-- ES: an error counter has come to the limit; from version 3 on also all through bus-off (SJA1000 data sheet, 6.4.5)
abbrev pub es_of : Registers → Bool
es_of p = is_warning p.ewlr p.rxerr p.txerr || by_bytes p && p.bs

-- the error state that the counters, the limit and bus-off make
abbrev pub error_state_of : Registers → ErrorState
error_state_of p = record { es = es_of p; bs = p.bs; passive = is_passive p.rxerr p.txerr }

-- what is shown of it: from version 3 on it stands still in reset mode, as it was when that was entered, whatever is
-- written to EWLR, RXERR and TXERR (SJA1000 data sheet, 6.4.10 to 6.4.12)
abbrev pub shown_state : Registers → ErrorState
shown_state p = if by_bytes p && p.mode.rm then p.frozen else error_state_of p

-- the causes of EI and EPI where one state of the registers becomes another, whatever the call
abbrev pub error_causes : Registers → Registers → Interrupts
error_causes old new = causes_between (by_bytes old) (shown_state old) (shown_state new)

-- SR: RBS where a message is at the driver's end, ES and BS as the error state is shown, the others as they are kept
abbrev pub status_of : Registers → BufferView → Status
status_of p seen =
    record {
      rbs = is_some seen.first;
      dos = p.dos;
      tbs = p.tbs;
      tcs = p.tcs;
      rs = p.rs;
      ts = p.ts;
      es = (shown_state p).es;
      bs = (shown_state p).bs;
    }

-- IR: RI exactly where RBS and its enable bit are 1, the others as they are pending
abbrev pub interrupts_in : Registers → BufferView → Interrupts
interrupts_in p seen = record p.pending { ri = is_some seen.first && p.enabled.ri }

-- how the controller starts: acceptance filter, self test mode, listen only mode, and the error counters that were
-- written in reset mode
abbrev pub config_of : Registers → Config
config_of p =
    record {
      filter = record { single = p.mode.afm; acr = p.acr; amr = p.amr };
      self_test = p.mode.stm;
      listen = p.mode.lom;
      tec = p.set_tec;
      rec = p.set_rec;
    }

-- a bus-off is asked for that didn't come yet (SJA1000 data sheet, 6.4.12): from version 3 on, where TXERR was written
-- 255 in reset mode
abbrev pub asks_off : Registers → Bool
asks_off p = by_bytes p && (is_some p.set_tec && (p.txerr == 255))

-- it comes as reset mode is about to be left
abbrev pub is_forced : Registers → Bool
is_forced p = p.mode.rm && asks_off p

-- bus-off, as counters and BS show it
abbrev pub gone_off : Registers → Registers
gone_off p = record p { txerr = 127; rxerr = 0; bs = true }

-- the next activation begins; they are numbered from 1, and the number stays at 2^64 - 1. The counters that were
-- written go with the start, and a bus-off that was asked for stands from then on
abbrev pub without_reset : Registers → Registers
without_reset p =
    record p {
      mode = record p.mode { rm = false };
      activation = min (2 ^ 64 - 1) (p.activation + 1);
      txerr = if is_forced p then 127 else p.txerr;
      rxerr = if is_forced p then 0 else p.rxerr;
      bs = is_forced p || p.bs;
      set_tec = None;
      set_rec = None;
    }

-- reset mode is left: from version 3 on what was written to EWLR, RXERR and TXERR shows now, and with it EI and EPI
-- (SJA1000 data sheet, 6.4.10 to 6.4.12)
abbrev pub after_leaving_reset : Registers → Registers
after_leaving_reset p =
    record (without_reset p) { pending = pending_after p.pending p.enabled (error_causes p (without_reset p)) }

-- what stays pending of these interrupts as reset mode is entered: from version 3 on EI alone (SJA1000 data sheet,
-- 6.4.2, reset values), in the others all (this project's own rule)
abbrev pub pending_in_reset : Registers → Interrupts → Interrupts
pending_in_reset p pending = if by_bytes p then record no_interrupt { ei = pending.ei } else pending

-- reset mode is entered: the transmit buffer is released with no interrupt, no abort stands any more, DOS is 0, and RS
-- and TS are 1. TCS, ALC and ECC stay (this project's own rule)
abbrev pub after_entering_reset : Registers → Registers
after_entering_reset p =
    record p {
      mode = record p.mode { rm = true };
      dos = false;
      tbs = true;
      rs = true;
      ts = true;
      pending = pending_in_reset p p.pending;
      frozen = shown_state p;
      abort = false;
    }
