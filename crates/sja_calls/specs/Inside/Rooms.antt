-- Why a text isn't put (this project's own rule).
use Rattle.std.specs.Prelude.{ℕ, List}
use Rattle.sja_calls.specs.declared.call_fault.CallFault.{CallFault}
use Rattle.sja_calls.specs.declared.call_fault.CallFault.TheVariants.{NoRoom}
use Rattle.sja_calls.specs.Texts.{LacksRoom}

-- there is no other reason than the room
abbrev pub IsLackOfRoom : List ℕ → List ℕ → CallFault → Type 0
IsLackOfRoom text room (NoRoom size) = LacksRoom text room size
IsLackOfRoom text room fault = ⊥
