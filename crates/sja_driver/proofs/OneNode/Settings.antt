-- What is the same in two ports that are alike, as one value.
use Rattle.std.proofs.Common.{◌≡◌, ℕ, Bool, List, ap}
use Rattle.std.specs.Prelude.{Option}
use Rattle.sja_regs.specs.declared.registers.Registers.{Registers}
use Rattle.sja_regs.specs.Registers.{asks_off}
use Rattle.sja_driver.specs.Alike.{AreAlike}

-- version, mode bits, acceptance filter, transmit buffer, the error counters that were written, and whether they ask
-- for a bus-off
pub record Settings : Type 0 where
  pub version : ℕ
  pub lom : Bool
  pub stm : Bool
  pub afm : Bool
  pub acr : List ℕ
  pub amr : List ℕ
  pub buffer : List ℕ
  pub set_tec : Option ℕ
  pub set_rec : Option ℕ
  pub asks : Bool

abbrev pub settings : Registers → Settings
settings p = record {
  version = p.version;
  lom = p.mode.lom;
  stm = p.mode.stm;
  afm = p.mode.afm;
  acr = p.acr;
  amr = p.amr;
  buffer = p.buffer;
  set_tec = p.set_tec;
  set_rec = p.set_rec;
  asks = asks_off p;
}

pub set_alike : {p r : Registers} → AreAlike p r → settings p ≡ settings r
set_alike h = λ k. record {
  version = h.version k;
  lom = h.lom k;
  stm = h.stm k;
  afm = h.afm k;
  acr = h.acr k;
  amr = h.amr k;
  buffer = h.buffer k;
  set_tec = h.set_tec k;
  set_rec = h.set_rec k;
  asks = h.asks k;
}

pub alike_set : (p r : Registers) → settings p ≡ settings r → AreAlike p r
alike_set p r e = record {
  version = ap (λ s. s.version) e;
  lom = ap (λ s. s.lom) e;
  stm = ap (λ s. s.stm) e;
  afm = ap (λ s. s.afm) e;
  acr = ap (λ s. s.acr) e;
  amr = ap (λ s. s.amr) e;
  buffer = ap (λ s. s.buffer) e;
  set_tec = ap (λ s. s.set_tec) e;
  set_rec = ap (λ s. s.set_rec) e;
  asks = ap (λ s. s.asks) e;
}
