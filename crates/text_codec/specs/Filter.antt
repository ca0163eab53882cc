-- What `filter` prints and refuses (this project's own rule; the filter is that of the SJA1000 data sheet, 6.4.15).
use Rattle.std.specs.Prelude.{◌≡◌, ◌⊎◌, ℕ, Bool, List, [], ◌∷◌, ◌++◌, codes, length}
use Rattle.can_frame.specs.Frame.{FrameValue}
use Rattle.can_frame.specs.Filter.{PassesBy}
use Rattle.text_codec.specs.Message.{ReadsAs}
use Rattle.text_codec.specs.Given.{Gives, RefusesGiven}
use Rattle.text_codec.specs.declared.command_refusal.CommandRefusal.{CommandRefusal}
use Rattle.text_codec.specs.declared.command_refusal.CommandRefusal.TheVariants.{OutOfMemory, NotHexadecimal}

-- eight hexadecimal digits, in either case, spell four registers
abbrev pub ReadsAsRegisters : List ℕ → List ℕ → Type 0
ReadsAsRegisters digits registers = (length digits ≡ 8) × ReadsAs digits registers

-- `pass` where the frame passes, else `stop`, and a line feed
abbrev pub IsVerdict : Type 0 → List ℕ → Type 0
IsVerdict Pass text = (Pass × (text ≡ codes "pass" ++ 10 ∷ [])) ⊎ (¬ Pass × (text ≡ codes "stop" ++ 10 ∷ []))

-- the text says whether the filter of this mode with these code and mask registers passes the frame that is
-- given
abbrev pub IsFiltering : Bool → List ℕ → List ℕ → List ℕ → List ℕ → Type 0
IsFiltering single acr amr given text =
    (code : List ℕ) × (mask : List ℕ) × (f : FrameValue) × ReadsAsRegisters acr code × ReadsAsRegisters amr mask
    × Gives given f × IsVerdict (PassesBy single f.ext code mask f) text

-- the digits spell no registers
abbrev pub RefusesRegisters : List ℕ → CommandRefusal → Type 0
RefusesRegisters digits refusal =
    (refusal ≡ NotHexadecimal) × ((registers : List ℕ) → ¬ ReadsAsRegisters digits registers)

-- memory may be refused at any time; else why the first argument is refused that is, from left to right
abbrev pub RefusesFilter : List ℕ → List ℕ → List ℕ → CommandRefusal → Type 0
RefusesFilter acr amr given refusal =
    (refusal ≡ OutOfMemory)
    ⊎ RefusesRegisters acr refusal
    ⊎ ((code : List ℕ) × ReadsAsRegisters acr code × RefusesRegisters amr refusal)
    ⊎ ((code : List ℕ) × (mask : List ℕ) × ReadsAsRegisters acr code × ReadsAsRegisters amr mask
    × RefusesGiven given refusal)
