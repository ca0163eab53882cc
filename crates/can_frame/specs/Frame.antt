-- What a CAN frame says (Bosch CAN 2.0 part A section 3.1 and part B sections 3.1 and 3.2; ISO 11898-1).
use Rattle.std.specs.Prelude.{◌≡◌, ◌<◌, ◌^◌, ℕ, Bool, true, false, List, length, min, All}

-- format, identifier, kind, data length code (DLC) and data bytes of a frame
pub record FrameValue : Type 0 where
  pub ext : Bool
  pub id : ℕ
  pub rtr : Bool
  pub dlc : ℕ
  pub bytes : List ℕ

-- the first number that is no identifier: 11 bits in a standard frame, 29 in an extended one
abbrev pub id_limit : Bool → ℕ
id_limit false = 2 ^ 11
id_limit true = 2 ^ 29

-- how many data bytes a DLC stands for: 9 to 15 mean 8 as well, and a remote frame has none
abbrev pub data_count : Bool → ℕ → ℕ
data_count false dlc = min dlc 8
data_count true dlc = 0

-- these five values are a frame
pub record IsFrame (f : FrameValue) : Type 0 where
  pub id : f.id < id_limit f.ext
  pub dlc : f.dlc < 16
  pub count : length f.bytes ≡ data_count f.rtr f.dlc
  pub bytes : All (λ byte. byte < 256) f.bytes
