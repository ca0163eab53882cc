-- What holds of the registers of every port, at each call and behind each lock (this project's own rule).
use Rattle.std.specs.Prelude.{◌≡◌, true, false, None, length}
use Rattle.sja_regs.specs.Registers.{by_bytes}
use Rattle.sja_regs.specs.declared.registers.Registers.{Registers}

-- the register facts
pub record RegisterFacts (p : Registers) : Type 0 where
  -- TBS is 0 only with TCS 0 and RM 0
  pub busy : p.tbs ≡ false → (p.tcs ≡ false) × (p.mode.rm ≡ false)
  -- RM is 1 only with TBS 1 and DOS 0
  pub reset : p.mode.rm ≡ true → (p.tbs ≡ true) × (p.dos ≡ false)
  -- version 1 has neither listen only mode nor self test mode
  pub first_version : p.version ≡ 1 → (p.mode.lom ≡ false) × (p.mode.stm ≡ false)
  -- an abort stands only with TBS 0
  pub abort : p.abort ≡ true → p.tbs ≡ false
  -- error counters are written in reset mode alone, and from version 3 on alone
  pub set : p.mode.rm ≡ false → (p.set_tec ≡ None) × (p.set_rec ≡ None)
  pub set_first : by_bytes p ≡ false → (p.set_tec ≡ None) × (p.set_rec ≡ None)
  -- no wake-up interrupt comes, and RI isn't kept: it follows from RBS
  pub never : (p.pending.wui ≡ false) × (p.pending.ri ≡ false)
  -- four code registers, four mask registers and 13 bytes of the transmit buffer
  pub acr : length p.acr ≡ 4
  pub amr : length p.amr ≡ 4
  pub buffer : length p.buffer ≡ 13
