-- What one bit of the bus changes, a register at a time (SJA1000 data sheet, 6.4.3 to 6.4.12).
use Rattle.std.specs.Prelude.{◌==◌, ◌||◌, ◌&&◌, not, ℕ, Bool, true, false, if◌then◌else◌, Option, Some, None, is_some}
use Rattle.can_levels.specs.declared.segment.Segment.{Segment}
use Rattle.can_node_rules.specs.declared.cause.Cause.{Cause}
use Rattle.can_node_rules.specs.declared.outcome.Outcome.{Outcome}
use Rattle.can_node_rules.specs.declared.outcome.Outcome.TheVariants.{Sent, Failed}
use Rattle.can_node_rules.specs.declared.phase.Phase.{Phase}
use Rattle.can_node_rules.specs.declared.phase.Phase.TheVariants.{Reset, Waiting, Idle, Frame, Flag}
use Rattle.can_node_rules.specs.declared.phase.Phase.TheVariants.{Delimiter, Intermission, Suspension}
use Rattle.sja_regs.specs.declared.interrupts.Interrupts.{Interrupts}
use Rattle.sja_regs.specs.declared.bus_turn.BusTurn.{BusTurn}
use Rattle.sja_regs.specs.declared.registers.Registers.{Registers}
use Rattle.sja_regs.specs.declared.capture.Capture.{Capture}
use Rattle.sja_regs.specs.declared.error_state.ErrorState.{ErrorState}
use Rattle.sja_regs.specs.Registers.{by_bytes, error_causes, shown_state, pending_in_reset}
use Rattle.sja_regs.specs.Interrupting.{no_interrupt, pending_after}
use Rattle.can_node_rules.specs.ErrorCode.{error_code}
use Rattle.sja_regs.specs.Captures.{after_capture}

-- ---- what the turn brings

-- the port isn't in reset mode, and the turn is of its activation
abbrev pub is_live : Registers → BusTurn → Bool
is_live p turn = not p.mode.rm && (turn.activation == p.activation)

-- a request was sent
abbrev pub is_sent : Option Outcome → Bool
is_sent (Some Sent) = true
is_sent (Some Failed) = false
is_sent None = false

-- the request ended: it was sent, it failed, or it was aborted
abbrev pub ends : Registers → BusTurn → Bool
ends p turn = is_live p turn && (is_some turn.events.ended || turn.aborted)

-- the controller went bus-off: reset mode is entered
abbrev pub goes_off : Registers → BusTurn → Bool
goes_off p turn = is_live p turn && turn.events.went_off

-- ---- status bits (6.4.5)

-- RS for a receiver and TS for a transmitter: both are 1 in reset and while waiting; in a frame, a flag or a delimiter
-- the one of the node's role is 1; else both are 0 (this project's own rule)
abbrev pub role_bit : Phase → Bool → Bool
role_bit Reset has_role = true
role_bit Waiting has_role = true
role_bit Frame has_role = has_role
role_bit Flag has_role = has_role
role_bit Delimiter has_role = has_role
role_bit Idle has_role = false
role_bit Intermission has_role = false
role_bit Suspension has_role = false

-- RS, as a turn tells role and phase
abbrev pub rs_told : BusTurn → Bool
rs_told turn = role_bit turn.phase turn.events.receiving

-- TS, likewise
abbrev pub ts_told : BusTurn → Bool
ts_told turn = role_bit turn.phase (not turn.events.receiving)

-- DOS: 1 from an overrun on; 0 in reset mode
abbrev pub dos_after : Registers → BusTurn → Bool
dos_after p turn = not (goes_off p turn) && (is_live p turn && turn.overrun || p.dos)

-- TBS: the buffer is released where the request ends or reset mode is entered
abbrev pub tbs_after : Registers → BusTurn → Bool
tbs_after p turn = ends p turn || goes_off p turn || p.tbs

-- TCS: 1 where the request was sent
abbrev pub tcs_after : Registers → BusTurn → Bool
tcs_after p turn = is_live p turn && is_sent turn.events.ended || p.tcs

-- an abort stands until the request ends or reset mode is entered
abbrev pub abort_after : Registers → BusTurn → Bool
abort_after p turn = not (ends p turn || goes_off p turn) && p.abort

-- from version 3 on RS and TS stand at 1 in reset mode (SJA1000 data sheet, 6.4.2), and a late turn of an activation
-- that the driver has left moves them in no mode (this project's own rule)
abbrev pub stands_still : Registers → BusTurn → Bool
stands_still p turn = by_bytes p && (p.mode.rm || not (turn.activation == p.activation))

abbrev pub rs_after : Registers → BusTurn → Bool
rs_after p turn = if stands_still p turn then p.rs else rs_told turn

abbrev pub ts_after : Registers → BusTurn → Bool
ts_after p turn = if stands_still p turn then p.ts else ts_told turn

-- counters and BS are the node's: in versions 1 and 2 in every turn (this project's own rule); from version 3 on in the
-- turns of the present activation, until a counter is written in reset mode (SJA1000 data sheet, 6.4.11 and 6.4.12)
abbrev pub follows_node : Registers → BusTurn → Bool
follows_node p turn =
    not (by_bytes p) || ((turn.activation == p.activation) && not (is_some p.set_tec || is_some p.set_rec))

abbrev pub rxerr_after : Registers → BusTurn → ℕ
rxerr_after p turn = if follows_node p turn then turn.rxerr else p.rxerr

abbrev pub txerr_after : Registers → BusTurn → ℕ
txerr_after p turn = if follows_node p turn then turn.txerr else p.txerr

-- BS: 1 from bus-off until its end (6.4.5). A turn says whether bus-off stands, and not only that it began or ended,
-- so a turn that isn't followed takes nothing along
abbrev pub bs_after : Registers → BusTurn → Bool
bs_after p turn = if follows_node p turn then turn.off else p.bs

-- what is the node's: in versions 1 and 2 also in reset mode and after the activation was left; from version 3 on in
-- turns of the present activation alone, RS and TS out of reset mode, counters and BS until a counter is written
abbrev pub with_node : Registers → BusTurn → Registers
with_node p turn =
    record p {
      rxerr = rxerr_after p turn;
      txerr = txerr_after p turn;
      rs = rs_after p turn;
      ts = ts_after p turn;
      bs = bs_after p turn;
    }

-- ---- captures (6.4.8 and 6.4.9)

-- the error code of a fault, if there is one
abbrev pub code_of_fault : Option (Cause × Segment) → Bool → Option ℕ
code_of_fault None receiving = None
code_of_fault (Some fault) receiving = Some (error_code (fault.0) (fault.1) receiving)

-- the place where arbitration was lost, in a turn of the port's activation
abbrev pub lost_in : Registers → BusTurn → Option ℕ
lost_in p turn = if is_live p turn then turn.events.lost else None

-- the error code of the fault, in a turn of the port's activation
abbrev pub fault_in : Registers → BusTurn → Option ℕ
fault_in p turn = if is_live p turn then code_of_fault turn.events.fault turn.events.receiving else None

-- ---- interrupts (6.4.6)

-- an event gives its interrupt: from version 3 on only where it is captured, so that the register has to be read before
-- the next one comes (SJA1000 data sheet, 6.4.8 and 6.4.9); in the others always (this project's own rule)
abbrev pub may_tell : Registers → Capture → Bool
may_tell p c = c.was_read || not (by_bytes p)

-- which interrupts have a cause
abbrev pub causes : Registers → BusTurn → Interrupts
causes p turn =
    record no_interrupt {
      -- TBS goes from 0 to 1 as the request ends
      ti = ends p turn && not p.tbs;
      -- ES or BS changes
      ei = (error_causes p (with_node p turn)).ei;
      -- DOS goes from 0 to 1
      doi = not p.dos && dos_after p turn;
      -- error passive begins or ends
      epi = (error_causes p (with_node p turn)).epi;
      -- arbitration was lost
      ali = (is_live p turn && is_some turn.events.lost) && may_tell p p.alc;
      -- there was a fault
      bei = (is_live p turn && is_some turn.events.fault) && may_tell p p.ecc;
    }

-- what is pending after the turn: bus-off enters reset mode
abbrev pub pending_told : Registers → BusTurn → Interrupts
pending_told p turn =
    if goes_off p turn then pending_in_reset p (pending_after p.pending p.enabled (causes p turn))
    else pending_after p.pending p.enabled (causes p turn)

-- the error state that stands still from bus-off on
abbrev pub frozen_after : Registers → BusTurn → ErrorState
frozen_after p turn = if goes_off p turn then shown_state (with_node p turn) else p.frozen

-- ---- all of it

-- each register after the turn; those that aren't named stay as they are
abbrev pub after_turn : Registers → BusTurn → Registers
after_turn p turn =
    record p {
      mode = record p.mode { rm = goes_off p turn || p.mode.rm };
      dos = dos_after p turn;
      tbs = tbs_after p turn;
      tcs = tcs_after p turn;
      rs = goes_off p turn || rs_after p turn;
      ts = goes_off p turn || ts_after p turn;
      bs = bs_after p turn;
      pending = pending_told p turn;
      frozen = frozen_after p turn;
      alc = after_capture p.alc (lost_in p turn);
      ecc = after_capture p.ecc (fault_in p turn);
      rxerr = rxerr_after p turn;
      txerr = txerr_after p turn;
      abort = abort_after p turn;
    }
