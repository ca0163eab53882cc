-- What a list of bytes says of itself when it is read as a message, and what can be wrong with it
-- (SJA1000 data sheet, 6.4.13 and 6.4.14; that unused bits are 0 is this project's own rule).
use Rattle.std.specs.Prelude.{◌≡◌, ◌==◌, ◌+◌, ◌/◌, ◌%◌, ◌<◌, ℕ, Bool, true, false, List, length, slice_index}
use Rattle.can_frame.specs.Frame.{data_count}
use Rattle.can_frame.specs.Message.{bit}

-- the first byte says that the frame is extended: bit 7
abbrev pub said_ext : List ℕ → Bool
said_ext m = slice_index m 0 / 128 % 2 == 1

-- the first byte says that the frame is a remote frame: bit 6
abbrev pub said_rtr : List ℕ → Bool
said_rtr m = slice_index m 0 / 64 % 2 == 1

-- the DLC that the first byte says: bits 3 to 0
abbrev pub said_dlc : List ℕ → ℕ
said_dlc m = slice_index m 0 % 16

-- how many bytes stand before the data
abbrev pub head_count : Bool → ℕ
head_count false = 3
head_count true = 5

-- how many bytes the first byte says there are; the empty list says as many as a byte 0 does
abbrev pub said_count : List ℕ → ℕ
said_count m = head_count (said_ext m) + data_count (said_rtr m) (said_dlc m)

-- fewer bytes than the first one says, or none
abbrev pub IsShort : List ℕ → Type 0
IsShort m = length m < said_count m

-- more bytes than the first one says
abbrev pub IsLong : List ℕ → Type 0
IsLong m = said_count m < length m

-- as many bytes as the first one says
abbrev pub IsSized : List ℕ → Type 0
IsSized m = length m ≡ said_count m

-- the bits below the RTR bit at the end of the head, by the format
abbrev pub spare_of : Bool → List ℕ → ℕ
spare_of false m = slice_index m 2 % 16
spare_of true m = slice_index m 4 % 4

-- bits 5 and 4 of the first byte and the lowest bits of the head are 0
pub record UnusedAreZero (m : List ℕ) : Type 0 where
  pub first : slice_index m 0 / 16 % 4 ≡ 0
  pub last : spare_of (said_ext m) m ≡ 0

-- the second RTR bit, at the end of the identifier, by the format
abbrev pub second_rtr_of : Bool → List ℕ → ℕ
second_rtr_of false m = slice_index m 2 / 16 % 2
second_rtr_of true m = slice_index m 4 / 4 % 2

-- the second RTR bit is the first one
abbrev pub RtrAgrees : List ℕ → Type 0
RtrAgrees m = second_rtr_of (said_ext m) m ≡ bit (said_rtr m)
