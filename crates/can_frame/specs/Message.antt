-- The bytes of a frame as the controller's buffers hold them (SJA1000 data sheet, 6.4.13 and 6.4.14:
-- transmit and receive buffer).
use Rattle.std.specs.Prelude.{◌≡◌, ◌+◌, ◌*◌, ◌/◌, ◌%◌, ℕ, Bool, true, false, List, [], ◌∷◌, ◌++◌}
use Rattle.can_frame.specs.Frame.{FrameValue, IsFrame}

-- a bit as a number
abbrev pub bit : Bool → ℕ
bit false = 0
bit true = 1

-- frame information and identifier: format in bit 7, RTR bit in bit 6 and DLC in bits 3 to 0 of the
-- first byte; then the identifier, most significant bit first and flush left; the RTR bit once more below it
abbrev pub head_of : Bool → ℕ → Bool → ℕ → List ℕ
head_of false id rtr dlc = (64 * bit rtr + dlc) ∷ id / 8 ∷ (32 * (id % 8) + 16 * bit rtr) ∷ []
head_of true id rtr dlc =
    (128 + 64 * bit rtr + dlc) ∷ id / 2097152 ∷ id / 8192 % 256 ∷ id / 32 % 256 ∷ (8 * (id % 32) + 4 * bit rtr) ∷ []

-- the message of a frame: its head, then its data bytes
abbrev pub message : FrameValue → List ℕ
message f = head_of f.ext f.id f.rtr f.dlc ++ f.bytes

-- these bytes are the message of some frame
abbrev pub IsMessage : List ℕ → Type 0
IsMessage m = (f : FrameValue) × IsFrame f × (m ≡ message f)
