-- Which register stands at which address (SJA1000 data sheet, 6.4.1, PeliCAN address layout).
use Rattle.std.specs.Prelude.{◌+◌, ◌-◌, ◌<◌, ◌&&◌, ℕ, Bool, true, false, nat_le}
use Rattle.std.specs.Prelude.{nat_lt, if◌then◌else◌, Option, Some, None, List, [], ◌∷◌}
use Rattle.sja_regs.specs.declared.register.Register.{Register}
use Rattle.sja_regs.specs.declared.register.Register.TheVariants.{Mode, Command, Status, Interrupt, InterruptEnable}
use Rattle.sja_regs.specs.declared.register.Register.TheVariants.{ArbitrationLostCapture, ErrorCodeCapture}
use Rattle.sja_regs.specs.declared.register.Register.TheVariants.{ErrorWarningLimit, ReceiveErrorCounter}
use Rattle.sja_regs.specs.declared.register.Register.TheVariants.{TransmitErrorCounter, AcceptanceCode}
use Rattle.sja_regs.specs.declared.register.Register.TheVariants.{AcceptanceMask, Buffer, ReceiveMessageCounter}

-- a row of the table: the first address, how many registers stand from there on, and each of them by its number
pub record Row : Type 0 where
  pub first : ℕ
  pub count : ℕ
  pub register : ℕ → Register

-- a row of one register
abbrev pub one : ℕ → Register → Row
one addr register = record { first = addr; count = 1; register = λ i. register }

-- a row of several, numbered from 0
abbrev pub several : ℕ → ℕ → (ℕ → Register) → Row
several addr count register = record { first = addr; count = count; register = register }

-- the addresses from 16 on: acceptance filter in reset mode; else transmit buffer for writes, receive buffer for reads
abbrev pub window_rows : Bool → List Row
window_rows true = several 16 4 AcceptanceCode ∷ several 20 4 AcceptanceMask ∷ []
window_rows false = several 16 13 Buffer ∷ []

-- the table, in reset mode (`true`) and out of it
abbrev pub rows : Bool → List Row
rows reset =
    one 0 Mode
    ∷ one 1 Command
    ∷ one 2 Status
    ∷ one 3 Interrupt
    ∷ one 4 InterruptEnable
    ∷ one 11 ArbitrationLostCapture
    ∷ one 12 ErrorCodeCapture
    ∷ one 13 ErrorWarningLimit
    ∷ one 14 ReceiveErrorCounter
    ∷ one 15 TransmitErrorCounter
    ∷ one 29 ReceiveMessageCounter
    ∷ window_rows reset

-- an address is one of a row's
abbrev pub is_in : Row → ℕ → Bool
is_in row addr = nat_le row.first addr && nat_lt addr (row.first + row.count)

-- the register at an address, by these rows
abbrev pub register_in : List Row → ℕ → Option Register
register_in [] addr = None
register_in (row ∷ rest) addr = if is_in row addr then Some (row.register (addr - row.first)) else register_in rest addr

-- the register at an address, in reset mode and out of it
abbrev pub register_at : Bool → ℕ → Option Register
register_at reset addr = register_in (rows reset) addr

-- the register is one of those that there are: four of code and mask each, and 13 of the buffer
abbrev pub IsPlace : Register → Type 0
IsPlace (AcceptanceCode i) = i < 4
IsPlace (AcceptanceMask i) = i < 4
IsPlace (Buffer i) = i < 13
IsPlace other = Unit {0}
