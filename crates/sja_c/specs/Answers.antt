-- The answers of the functions of C (this project's own rule), as c/sja.h has them.
use Rattle.std.specs.Prelude.{◌≡◌, ◌⊎◌, ◌+◌, ℕ, Option, Some, None}
use Rattle.sja_c.specs.declared.answer.SjaAnswer.{SjaAnswer}
use Rattle.sja_calls.specs.declared.call_fault.CallFault.{CallFault}
use Rattle.sja_calls.specs.declared.call_fault.CallFault.TheVariants.{Ended, Version, Bits, Nodes, NoAddress, NoByte}
use Rattle.sja_calls.specs.declared.call_fault.CallFault.TheVariants.{NoNode, NoBit, Past, StepsUsed, TurnsUsed}
use Rattle.sja_calls.specs.declared.call_fault.CallFault.TheVariants.{StrikesUsed, NoPlan, NoDocument, NoRoom, Memory}
use Rattle.sja_calls.specs.declared.call_fault.CallFault.TheVariants.{NoPlace, Endless}

abbrev pub answer : ℕ → ℕ → SjaAnswer
answer status value = record { status = status; rose = 0; value = value }

-- the number of a node whose line rose: its own and 1; 0 where none did
abbrev pub number_of : Option ℕ → ℕ
number_of None = 0
number_of (Some node) = node + 1

-- SJA_NO_HANDLE
abbrev pub no_handle_status : ℕ
no_handle_status = 1

-- what is answered where a call isn't done: the number of the reason in `enum sja_status`, and the size that a text
-- needs
abbrev pub refusal : CallFault → SjaAnswer
refusal Ended = answer 2 0
refusal Version = answer 3 0
refusal Bits = answer 4 0
refusal Nodes = answer 5 0
refusal NoAddress = answer 6 0
refusal NoByte = answer 7 0
refusal NoNode = answer 8 0
refusal NoBit = answer 9 0
refusal Past = answer 10 0
refusal StepsUsed = answer 11 0
refusal TurnsUsed = answer 12 0
refusal StrikesUsed = answer 13 0
refusal NoPlan = answer 14 0
refusal NoDocument = answer 15 0
refusal (NoRoom size) = answer 16 size
refusal Memory = answer 17 0
refusal NoPlace = answer 19 0
refusal Endless = answer 20 0

-- a call was done, and gives this number; or it wasn't, for this reason
abbrev pub Answers : (ℕ → Type 0) → (CallFault → Type 0) → SjaAnswer → Type 0
Answers does fails r =
    ((r ≡ answer 0 r.value) × does r.value) ⊎ ((fault : CallFault) × fails fault × (r ≡ refusal fault))
