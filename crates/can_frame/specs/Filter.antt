-- The acceptance filter (SJA1000 data sheet, 6.4.15): which bits of the code registers are compared with which bits of
-- a frame, by the filter's mode and the frame's format. A mask bit of 1 means that its code bit isn't compared.
use Rattle.std.specs.Prelude.{◌≡◌, ◌<◌, ◌+◌, ◌/◌, ◌^◌, ◌⊎◌}
use Rattle.std.specs.Prelude.{ℕ, Bool, true, false, Option, Some, None, List, slice_index, slice_get}
use Rattle.std.specs.Int.{bit_at}
use Rattle.can_frame.specs.Frame.{FrameValue}
use Rattle.can_frame.specs.Message.{bit}
use Rattle.can_frame.specs.declared.filter.Filter.{Filter}

-- the lowest `count` bits of a number are the bits of a code register from the bit `low` on, but where the mask says
-- that they aren't compared
abbrev pub Matches : ℕ → ℕ → ℕ → ℕ → ℕ → Type 0
Matches code mask low count number =
    (i : ℕ) → i < count → bit_at mask (low + i) ≡ 0 → bit_at code (low + i) ≡ bit_at number i

-- the same for a byte of the data; an absent one isn't compared
abbrev pub MatchesByte : ℕ → ℕ → Option ℕ → Type 0
MatchesByte code mask None = Unit {0}
MatchesByte code mask (Some byte) = Matches code mask 0 8 byte

-- the same for the two halves of a byte of the data, high half and low half, each in the low half of a register
abbrev pub MatchesHalves : ℕ → ℕ → ℕ → ℕ → Option ℕ → Type 0
MatchesHalves high high_mask low low_mask None = Unit {0}
MatchesHalves high high_mask low low_mask (Some byte) =
    Matches high high_mask 0 4 (byte / 16) × Matches low low_mask 0 4 byte

-- identifier and RTR bit of a standard frame against two registers:
-- ID.28 to ID.21; ID.20 to ID.18 in bits 7 to 5 and RTR in bit 4
pub record MatchesStandardHead (first first_mask second second_mask : ℕ) (f : FrameValue) : Type 0 where
  pub high : Matches first first_mask 0 8 (f.id / 2 ^ 3)
  pub low : Matches second second_mask 5 3 f.id
  pub rtr : Matches second second_mask 4 1 (bit f.rtr)

-- ID.28 to ID.13 of an extended frame against two registers
pub record MatchesExtendedHead (first first_mask second second_mask : ℕ) (f : FrameValue) : Type 0 where
  pub high : Matches first first_mask 0 8 (f.id / 2 ^ 21)
  pub low : Matches second second_mask 0 8 (f.id / 2 ^ 13)

-- single filter, standard frame: ACR0 and ACR1 with identifier and RTR, ACR2 and ACR3 with data bytes 1 and 2.
-- ACR1.3 to ACR1.0 aren't used (this project's own rule)
pub record PassesSingleStandard (acr amr : List ℕ) (f : FrameValue) : Type 0 where
  pub head : MatchesStandardHead (slice_index acr 0) (slice_index amr 0) (slice_index acr 1) (slice_index amr 1) f
  pub first : MatchesByte (slice_index acr 2) (slice_index amr 2) (slice_get f.bytes 0)
  pub second : MatchesByte (slice_index acr 3) (slice_index amr 3) (slice_get f.bytes 1)

-- single filter, extended frame: ACR0 to ACR2 with ID.28 to ID.5, ACR3.7 to ACR3.3 with ID.4 to ID.0, ACR3.2 with RTR.
-- ACR3.1 and ACR3.0 aren't used (this project's own rule)
pub record PassesSingleExtended (acr amr : List ℕ) (f : FrameValue) : Type 0 where
  pub head : MatchesExtendedHead (slice_index acr 0) (slice_index amr 0) (slice_index acr 1) (slice_index amr 1) f
  pub middle : Matches (slice_index acr 2) (slice_index amr 2) 0 8 (f.id / 2 ^ 5)
  pub low : Matches (slice_index acr 3) (slice_index amr 3) 3 5 f.id
  pub rtr : Matches (slice_index acr 3) (slice_index amr 3) 2 1 (bit f.rtr)

-- dual filter, standard frame, filter 1: ACR0 and ACR1.7 to ACR1.4 with identifier and RTR; data byte 1: its high half
-- with ACR1.3 to ACR1.0, its low half with ACR3.3 to ACR3.0
pub record PassesFirstStandard (acr amr : List ℕ) (f : FrameValue) : Type 0 where
  pub head : MatchesStandardHead (slice_index acr 0) (slice_index amr 0) (slice_index acr 1) (slice_index amr 1) f
  pub data_byte :
      MatchesHalves (slice_index acr 1) (slice_index amr 1) (slice_index acr 3) (slice_index amr 3)
      (slice_get f.bytes 0)

-- dual filter, standard frame, filter 2: ACR2 and ACR3.7 to ACR3.4 with identifier and RTR
abbrev pub PassesSecondStandard : List ℕ → List ℕ → FrameValue → Type 0
PassesSecondStandard acr amr f =
    MatchesStandardHead (slice_index acr 2) (slice_index amr 2) (slice_index acr 3) (slice_index amr 3) f

-- dual filter, extended frame: filter 1 compares ACR0 and ACR1, filter 2 compares ACR2 and ACR3, with ID.28 to ID.13
abbrev pub PassesFirstExtended : List ℕ → List ℕ → FrameValue → Type 0
PassesFirstExtended acr amr f =
    MatchesExtendedHead (slice_index acr 0) (slice_index amr 0) (slice_index acr 1) (slice_index amr 1) f

abbrev pub PassesSecondExtended : List ℕ → List ℕ → FrameValue → Type 0
PassesSecondExtended acr amr f =
    MatchesExtendedHead (slice_index acr 2) (slice_index amr 2) (slice_index acr 3) (slice_index amr 3) f

-- by the mode (single or dual) and the format (standard or extended); a dual filter passes where one of its two does
abbrev pub PassesBy : Bool → Bool → List ℕ → List ℕ → FrameValue → Type 0
PassesBy true false acr amr f = PassesSingleStandard acr amr f
PassesBy true true acr amr f = PassesSingleExtended acr amr f
PassesBy false false acr amr f = PassesFirstStandard acr amr f ⊎ PassesSecondStandard acr amr f
PassesBy false true acr amr f = PassesFirstExtended acr amr f ⊎ PassesSecondExtended acr amr f

-- the filter passes the frame
abbrev pub Passes : Filter → FrameValue → Type 0
Passes filter f = PassesBy filter.single f.ext filter.acr filter.amr f
