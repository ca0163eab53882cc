-- What the parts of a turn's code do.
use Rattle.std.specs.Prelude.{◌≡◌, ◌||◌, ◌&&◌, not, is_some, if◌then◌else◌}
use Rattle.can_node_rules.specs.declared.bit_events.BitEvents.{BitEvents}
use Rattle.sja_regs.specs.declared.bus_turn.BusTurn.{BusTurn}
use Rattle.sja_regs.specs.declared.interrupts.Interrupts.{Interrupts}
use Rattle.sja_regs.specs.declared.registers.Registers.{Registers}
use Rattle.sja_regs.specs.Captures.{after_capture}
use Rattle.sja_regs.specs.Registers.{error_causes, shown_state, pending_in_reset}
use Rattle.sja_regs.specs.Interrupting.{no_interrupt, pending_after}
use Rattle.sja_regs.specs.Turns.{is_live, is_sent, ends, goes_off, may_tell, rs_after, ts_after, bs_after, rxerr_after}
use Rattle.sja_regs.specs.Turns.{txerr_after}
use Rattle.sja_regs.specs.Turns.{dos_after, tbs_after, tcs_after, abort_after, with_node}
use Rattle.sja_regs.specs.Turns.{code_of_fault, lost_in, fault_in}

-- RS and TS
abbrev pub with_role : Registers → BusTurn → Registers
with_role p turn = record p { rs = rs_after p turn; ts = ts_after p turn }

-- RXERR, TXERR and BS, and the interrupts that hang on them
abbrev pub with_counters : Registers → BusTurn → Registers
with_counters p turn =
    record p {
      rxerr = rxerr_after p turn;
      txerr = txerr_after p turn;
      bs = bs_after p turn;
      pending = pending_after p.pending p.enabled (error_causes p (with_node p turn));
    }

-- counters and BS stand already at what the turn says
pub record HasCounted (p : Registers) (turn : BusTurn) : Type 0 where
  pub rxerr : turn.rxerr ≡ p.rxerr
  pub txerr : turn.txerr ≡ p.txerr
  pub off : turn.off ≡ p.bs

-- which of the activation's interrupts have a cause: all but EI and EPI
abbrev pub activity : Registers → BusTurn → Interrupts
activity p turn =
    record no_interrupt {
      ti = ends p turn && not p.tbs;
      doi = not p.dos && dos_after p turn;
      ali = (is_live p turn && is_some turn.events.lost) && may_tell p p.alc;
      bei = (is_live p turn && is_some turn.events.fault) && may_tell p p.ecc;
    }

-- ALC and ECC, in a turn of the port's activation
abbrev pub with_captures : Registers → BitEvents → Registers
with_captures p events =
    record p {
      alc = after_capture p.alc events.lost;
      ecc = after_capture p.ecc (code_of_fault events.fault events.receiving);
    }

-- DOS, the end of a request and bus-off, in a turn of the port's activation
abbrev pub after_settling : Registers → BusTurn → Registers
after_settling p turn =
    let ended = is_some turn.events.ended || turn.aborted in
    record p {
      mode = record p.mode { rm = turn.events.went_off || p.mode.rm };
      dos = not turn.events.went_off && (turn.overrun || p.dos);
      tbs = ended || turn.events.went_off || p.tbs;
      tcs = is_sent turn.events.ended || p.tcs;
      rs = turn.events.went_off || p.rs;
      ts = turn.events.went_off || p.ts;
      pending = if turn.events.went_off then pending_in_reset p p.pending else p.pending;
      frozen = if turn.events.went_off then shown_state p else p.frozen;
      abort = not (ended || turn.events.went_off) && p.abort;
    }

-- what a turn brings to its activation, where that is the present one and goes on
abbrev pub with_news : Registers → BusTurn → Registers
with_news p turn =
    record p {
      mode = record p.mode { rm = goes_off p turn || p.mode.rm };
      dos = dos_after p turn;
      tbs = tbs_after p turn;
      tcs = tcs_after p turn;
      rs = goes_off p turn || p.rs;
      ts = goes_off p turn || p.ts;
      pending = if goes_off p turn then pending_in_reset p (pending_after p.pending p.enabled (activity p turn))
          else pending_after p.pending p.enabled (activity p turn);
      frozen = if goes_off p turn then shown_state p else p.frozen;
      alc = after_capture p.alc (lost_in p turn);
      ecc = after_capture p.ecc (fault_in p turn);
      abort = abort_after p turn;
    }
