-- What the two error interrupts hang on, and their causes (SJA1000 data sheet, 6.4.5, 6.4.6 and 6.4.10 to 6.4.12).
use Rattle.std.specs.Prelude.{◌||◌, ◌&&◌, not, ℕ, Bool, nat_le}
use Rattle.sja_regs.specs.declared.interrupts.Interrupts.{Interrupts}
use Rattle.sja_regs.specs.declared.error_state.ErrorState.{ErrorState}
use Rattle.sja_regs.specs.Bits.{differ}
use Rattle.sja_regs.specs.Interrupting.{no_interrupt}

-- TXERR or RXERR is at least EWLR: in versions 1 and 2 this is ES, during bus-off and its recovery too (this project's
-- own rule); from version 3 on ES is 1 all through bus-off as well (`es_of` of Registers)
abbrev pub is_warning : ℕ → ℕ → ℕ → Bool
is_warning ewlr rxerr txerr = nat_le ewlr txerr || nat_le ewlr rxerr

-- error passive: TXERR or RXERR is at least 128
abbrev pub is_passive : ℕ → ℕ → Bool
is_passive rxerr txerr = nat_le 128 txerr || nat_le 128 rxerr

-- EI where ES or BS changes, EPI where error passive begins or ends. In a version for drivers that know addresses and
-- bytes alone (`raw`) going bus-off brings no EPI (6.4.6); in the others it does (this project's own rule)
abbrev pub causes_between : Bool → ErrorState → ErrorState → Interrupts
causes_between by_bytes old new =
    record no_interrupt {
      ei = differ old.es new.es || differ old.bs new.bs;
      epi = differ old.passive new.passive && not (by_bytes && (not old.bs && new.bs));
    }
