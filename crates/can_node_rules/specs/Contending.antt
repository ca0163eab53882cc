-- Frames whose transmitters start together on one bus: which of them go on, and where the others lose arbitration
-- (Bosch CAN 2.0 part A section 3.1.1 and part B section 3.2; SJA1000 data sheet, 6.4.8, arbitration lost capture).
use Rattle.std.specs.Prelude.{◌≡◌, ◌↔◌, ℕ, Bool, true, false, List, take, drop}
use Rattle.std.specs.Prelude.{slice_get, Option, Some, None, All, Contains}
use Rattle.std.specs.List.{AllZip}
use Rattle.can_frame.specs.Frame.{FrameValue}
use Rattle.can_levels.specs.declared.level.Level.{Level}
use Rattle.can_levels.specs.declared.level.Level.TheVariants.{Dominant, Recessive}
use Rattle.can_levels.specs.Body.{sent_body}

-- how many levels the arbitration field has, by the format: up to IDE in a standard frame, up to RTR in an extended one
abbrev pub field_count : Bool → ℕ
field_count false = 13
field_count true = 32

-- the arbitration field of a frame: the first levels that its transmitter sends after SOF, without stuff bits
abbrev pub arbitration_field : FrameValue → List Level
arbitration_field f = take (field_count f.ext) (drop 1 (sent_body f))

-- a field loses to another at the place n, counted from the first bit of the identifier: up to there they are the same,
-- and there the first is recessive and the other dominant
pub record LosesAt (a b : List Level) (n : ℕ) : Type 0 where
  pub same : take n a ≡ take n b
  pub own : slice_get a n ≡ Some Recessive
  pub other : slice_get b n ≡ Some Dominant

-- a frame is least among these: it loses to none of them
abbrev pub IsLeast : List FrameValue → FrameValue → Type 0
IsLeast fs f = All (λ (g : FrameValue). (n : ℕ) → ¬ LosesAt (arbitration_field f) (arbitration_field g) n) fs

-- a frame loses at the place n to a least one of these
pub record LosesToLeast (fs : List FrameValue) (f : FrameValue) (n : ℕ) : Type 0 where
  pub least : FrameValue
  pub among : Contains fs least
  pub is_least : IsLeast fs least
  pub at : LosesAt (arbitration_field f) (arbitration_field least) n

-- what becomes of a frame among these: nothing is lost where it goes on, that is where it is least; else the place
-- where it loses
pub record Fares (fs : List FrameValue) (f : FrameValue) (lost : Option ℕ) : Type 0 where
  pub goes_on : (lost ≡ None) ↔ IsLeast fs f
  pub loses : (n : ℕ) → (lost ≡ Some n) ↔ LosesToLeast fs f n

-- what becomes of each of these frames, in their order
abbrev pub IsContention : List FrameValue → List (Option ℕ) → Type 0
IsContention fs places = AllZip (Fares fs) fs places
