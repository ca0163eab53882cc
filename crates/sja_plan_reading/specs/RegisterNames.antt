-- The registers by their names (SJA1000 data sheet, 6.4.1, PeliCAN address layout). The table of names and addresses is
-- `REGISTERS` of `src/register_names.rt`.
use Rattle.std.specs.Prelude.{◌==◌, ℕ, List, map, reverse, Bool, true, false, Option, option_map, find}
use Rattle.std.specs.Str.{str_eq_ignore_ascii_case}
use Rattle.sja_plan_reading.specs.Words.{Text}
use Rattle.sja_plan_reading.specs.declared.register_names.TheConstants.{REGISTERS}

-- the names, with their addresses
abbrev pub registers : List (Text × ℕ)
registers = map (λ r. (r.0.now, r.1)) REGISTERS

-- the address of the register of this name, in either case
unfoldable pub register_address : Text → Option ℕ
register_address word =
    option_map (λ (r : Text × ℕ). r.1) (find (λ (r : Text × ℕ). str_eq_ignore_ascii_case r.0 word) registers)

-- the first name of an address in these rows
abbrev pub name_in : List (Text × ℕ) → ℕ → Option Text
name_in rows address = option_map (λ (r : Text × ℕ). r.0) (find (λ (r : Text × ℕ). r.1 == address) rows)

-- the name of what is read at an address, in reset mode (`true`) and out of it. At those from 16 on several names stand
-- in the table: first that of the acceptance filter, which is read in reset mode, last that of the receive buffer
unfoldable pub name_read : Bool → ℕ → Option Text
name_read true address = name_in registers address
name_read false address = name_in (reverse registers) address
