-- The interrupt register IR and the interrupt enable register IER (SJA1000 data sheet, 6.4.6 and 6.4.7).
use Rattle.std.specs.Prelude.{◌||◌, ◌&&◌, ℕ, false, [], ◌∷◌}
use Rattle.sja_regs.specs.declared.interrupts.Interrupts.{Interrupts}
use Rattle.sja_regs.specs.Bits.{is_set, byte}

-- RI bit 0, TI bit 1, EI bit 2, DOI bit 3, WUI bit 4, EPI bit 5, ALI bit 6, BEI bit 7
abbrev pub interrupts_of : ℕ → Interrupts
interrupts_of value =
    record {
      ri = is_set value 0;
      ti = is_set value 1;
      ei = is_set value 2;
      doi = is_set value 3;
      wui = is_set value 4;
      epi = is_set value 5;
      ali = is_set value 6;
      bei = is_set value 7;
    }

-- the byte with these bits
abbrev pub interrupts_byte : Interrupts → ℕ
interrupts_byte i = byte (i.ri ∷ i.ti ∷ i.ei ∷ i.doi ∷ i.wui ∷ i.epi ∷ i.ali ∷ i.bei ∷ [])

-- none of them
abbrev pub no_interrupt : Interrupts
no_interrupt =
    record {
      ri = false;
      ti = false;
      ei = false;
      doi = false;
      wui = false;
      epi = false;
      ali = false;
      bei = false;
    }

-- what is pending once these causes came: each interrupt that has a cause and is enabled, and those that were pending
abbrev pub pending_after : Interrupts → Interrupts → Interrupts → Interrupts
pending_after pending enabled causes =
    record {
      ri = causes.ri && enabled.ri || pending.ri;
      ti = causes.ti && enabled.ti || pending.ti;
      ei = causes.ei && enabled.ei || pending.ei;
      doi = causes.doi && enabled.doi || pending.doi;
      wui = causes.wui && enabled.wui || pending.wui;
      epi = causes.epi && enabled.epi || pending.epi;
      ali = causes.ali && enabled.ali || pending.ali;
      bei = causes.bei && enabled.bei || pending.bei;
    }
