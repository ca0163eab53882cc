-- Registers that carry the same into starts and requests (this project's own rule).
use Rattle.std.specs.Prelude.{◌≡◌}
use Rattle.sja_regs.specs.declared.registers.Registers.{Registers}
use Rattle.sja_regs.specs.Registers.{asks_off}

-- version, mode bits, acceptance filter, transmit buffer and the error counters that were written are the same, and
-- whether they ask for a bus-off
pub record AreAlike (p q : Registers) : Type 0 where
  pub version : p.version ≡ q.version
  pub lom : p.mode.lom ≡ q.mode.lom
  pub stm : p.mode.stm ≡ q.mode.stm
  pub afm : p.mode.afm ≡ q.mode.afm
  pub acr : p.acr ≡ q.acr
  pub amr : p.amr ≡ q.amr
  pub buffer : p.buffer ≡ q.buffer
  pub set_tec : p.set_tec ≡ q.set_tec
  pub set_rec : p.set_rec ≡ q.set_rec
  pub asks : asks_off p ≡ asks_off q
