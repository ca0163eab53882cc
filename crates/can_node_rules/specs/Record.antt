-- The record of a node: what happened to it, in order (this project's own rule).
use Rattle.std.specs.Prelude.{◌≡◌, List, [], ◌∷◌, ◌++◌}
use Rattle.can_node_rules.specs.declared.config.Config.{Config}
use Rattle.can_node_rules.specs.declared.request.Request.{Request}
use Rattle.can_node_rules.specs.Bits.{Bit}

-- what may happen to a node
pub data RecordEntry : Type 0 where
  -- it leaves reset with this configuration, and enters it (SJA1000 data sheet, 6.4.3, reset mode)
  Start : Config → RecordEntry
  Stop : RecordEntry
  -- one bit of the bus
  OneBit : Bit → RecordEntry
  -- a request to send a frame, and an abort that changed something (SJA1000 data sheet, 6.4.4)
  Send : Request → RecordEntry
  Abort : RecordEntry
  -- it goes bus-off (Bosch CAN 2.0 part A section 7, rule 10)
  BusOff : RecordEntry

-- the bits among entries
abbrev pub bits_in : List RecordEntry → List Bit
bits_in [] = []
bits_in (OneBit b ∷ entries) = b ∷ bits_in entries
bits_in (Send request ∷ entries) = bits_in entries
bits_in (Abort ∷ entries) = bits_in entries
bits_in (Start config ∷ entries) = bits_in entries
bits_in (Stop ∷ entries) = bits_in entries
bits_in (BusOff ∷ entries) = bits_in entries

-- bits, and requests and aborts, which may come anywhere between them
pub data Inner : List RecordEntry → Type 0 where
  none_left : Inner []
  samples : {entries : List RecordEntry} (b : Bit) → Inner entries → Inner (OneBit b ∷ entries)
  sends : {entries : List RecordEntry} (request : Request) → Inner entries → Inner (Send request ∷ entries)
  aborts : {entries : List RecordEntry} → Inner entries → Inner (Abort ∷ entries)

-- the first entry is a bit
pub record BeginsInBit (entries : List RecordEntry) : Type 0 where
  pub bit : Bit
  pub rest : List RecordEntry
  pub whole : entries ≡ OneBit bit ∷ rest

-- the last entry is a bit
pub record EndsInBit (entries : List RecordEntry) : Type 0 where
  pub before : List RecordEntry
  pub bit : Bit
  pub whole : entries ≡ before ++ OneBit bit ∷ []

-- the entries of a piece, from its first bit to its last
pub record IsSlice (entries : List RecordEntry) : Type 0 where
  pub inner : Inner entries
  pub begins : BeginsInBit entries
  pub ends : EndsInBit entries
