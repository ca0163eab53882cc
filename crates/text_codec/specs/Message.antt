-- A message given by hexadecimal digits, two a byte, in either case, without spaces (this project's own rule).
use Rattle.std.specs.Prelude.{◌≡◌, ℕ, List, Ok}
use Rattle.hex.specs.Hex.{decode_of}
use Rattle.can_frame.specs.Layout.{IsShort, IsLong, IsSized, UnusedAreZero, RtrAgrees}
use Rattle.can_frame.specs.declared.layout_fault.LayoutFault.{LayoutFault}
use Rattle.can_frame.specs.declared.layout_fault.LayoutFault.TheVariants.{Short, Long, UnusedBit, RtrDisagrees}
use Rattle.text_codec.specs.declared.command_refusal.CommandRefusal.{CommandRefusal}
use Rattle.text_codec.specs.declared.command_refusal.CommandRefusal.TheVariants.{OutOfMemory, NotHexadecimal, NotALine}
use Rattle.text_codec.specs.declared.command_refusal.CommandRefusal.TheVariants.{Read, Layout, Line, Notation, Plan}
use Rattle.text_codec.specs.declared.command_refusal.CommandRefusal.TheVariants.{Run}
use Rattle.text_codec.specs.declared.command_refusal.CommandRefusal.TheVariants.{Drawing, Place, Strikes, Sweep}

-- the digits spell these bytes
abbrev pub ReadsAs : List ℕ → List ℕ → Type 0
ReadsAs digits bytes = decode_of digits ≡ Ok bytes

-- the first fault in the layout of these bytes
abbrev pub IsLayoutFault : List ℕ → LayoutFault → Type 0
IsLayoutFault bytes Short = IsShort bytes
IsLayoutFault bytes Long = IsLong bytes
IsLayoutFault bytes UnusedBit = IsSized bytes × ¬ UnusedAreZero bytes
IsLayoutFault bytes RtrDisagrees = IsSized bytes × UnusedAreZero bytes × ¬ RtrAgrees bytes

-- why the digits spell no message: memory may be refused at any time; else they spell no bytes, or bytes with
-- this fault
abbrev pub RefusesMessage : List ℕ → CommandRefusal → Type 0
RefusesMessage digits OutOfMemory = Unit {0}
RefusesMessage digits NotHexadecimal = (bytes : List ℕ) → ¬ ReadsAs digits bytes
RefusesMessage digits (Layout fault) = (bytes : List ℕ) × ReadsAs digits bytes × IsLayoutFault bytes fault
RefusesMessage digits NotALine = ⊥
RefusesMessage digits Read = ⊥
RefusesMessage digits (Line fault) = ⊥
RefusesMessage digits (Notation fault) = ⊥
RefusesMessage digits (Plan fault) = ⊥
RefusesMessage digits (Run fault) = ⊥
RefusesMessage digits (Place number) = ⊥
RefusesMessage digits Strikes = ⊥
RefusesMessage digits (Sweep why) = ⊥
RefusesMessage digits (Drawing levels) = ⊥
