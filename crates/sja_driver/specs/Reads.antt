-- What a driver reads that knows addresses and bytes alone: each of the 256 addresses, in either mode (SJA1000 data
-- sheet, 6.4.1).
use Rattle.std.specs.Prelude.{ℕ, unwrap_or}
use Rattle.can_frame.specs.declared.buffer_view.BufferView.{BufferView}
use Rattle.sja_regs.specs.declared.registers.Registers.{Registers}
use Rattle.sja_regs.specs.Addresses.{register_at}
use Rattle.sja_regs.specs.Reading.{value_at}
use Rattle.sja_driver.specs.declared.unmodelled_registers.UnmodelledRegisters.{UnmodelledRegisters}
use Rattle.sja_driver.specs.Kept.{kept_at}

-- what an address reads as: the register of the port that stands there, if it can be read; else a kept one; else 0
abbrev pub value_by_bytes : Registers → UnmodelledRegisters → BufferView → ℕ → ℕ
value_by_bytes p kept seen address = unwrap_or (value_at p seen (register_at p.mode.rm address)) (kept_at kept address)
