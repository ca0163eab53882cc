-- Refusals: of several the first that holds (this project's own rule).
use Rattle.std.specs.Prelude.{Bool, if◌then◌else◌, Option, Some, None, Result, Ok, Err, List, [], ◌∷◌}
use Rattle.sja_regs.specs.declared.reg_fault.RegFault.{RegFault}

-- of conditions, each with its fault, the fault of the first that holds
abbrev pub first_fault : List (Bool × RegFault) → Option RegFault
first_fault [] = None
first_fault (row ∷ rows) = if row.0 then Some (row.1) else first_fault rows

-- the refusal that a call answers
abbrev pub fault_of : {A : Type 0} → Result A RegFault → Option RegFault
fault_of (Ok x) = None
fault_of (Err fault) = Some fault
