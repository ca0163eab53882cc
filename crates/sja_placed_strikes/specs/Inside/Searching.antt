-- The first of several places in a run.
use Rattle.std.specs.Prelude.{◌≡◌, ◌≤◌, ◌<◌, ℕ, Bool, if◌then◌else◌, nat_lt, Option, Some, None}
use Rattle.std.specs.Prelude.{List, length, drop, slice_index_or}
use Rattle.std.specs.List.{filter}
use Rattle.text_frames.specs.FrameStories.{NodeStory, values_of}
use Rattle.text_frames.specs.declared.started_frame.StartedFrame.{StartedFrame}
use Rattle.sja_log.specs.declared.run_fault.RunFault.TheVariants.{Memory as NoMemory}
use Rattle.sja_placed_strikes.specs.declared.aim.Aim.{Aim}
use Rattle.sja_placed_strikes.specs.declared.place_fault.PlaceFault.{PlaceFault}
use Rattle.sja_placed_strikes.specs.declared.place_fault.PlaceFault.TheVariants.{NoPlace, StrikeCount, Run, Memory}
use Rattle.sja_placed_strikes.specs.Aims.{bit_at, frame_at}

-- of these frames, from one of them on, those that count, and the one of a number among them
abbrev pub counted : (NodeStory → Bool) → List StartedFrame → ℕ → ℕ → Option NodeStory
counted p found i number = frame_at (filter p (values_of (drop i found))) number

-- the earlier one of a place with its index and the place of this index
abbrev pub earlier : Option (ℕ × ℕ) → ℕ → Option ℕ → Option (ℕ × ℕ)
earlier first index None = first
earlier None index (Some bit) = Some (index, bit)
earlier (Some other) index (Some bit) = if nat_lt bit (other.1) then Some (index, bit) else Some other

-- of the first so many places this one is the earliest, at this bit
pub record IsFirstOf (found : List NodeStory) (bits : ℕ) (aims : List Aim) (many index bit : ℕ) : Type 0 where
  pub within : index < many
  pub here : (d : Aim) → bit_at found bits (slice_index_or aims index d) ≡ Some bit
  pub first : (k at : ℕ) (d : Aim) → k < many → bit_at found bits (slice_index_or aims k d) ≡ Some at → bit ≤ at

-- or none of them is at a bit
abbrev pub IsEarliest : List NodeStory → ℕ → List Aim → ℕ → Option (ℕ × ℕ) → Type 0
IsEarliest found bits aims many (Some first) = IsFirstOf found bits aims many (first.0) (first.1)
IsEarliest found bits aims many None = (k : ℕ) (d : Aim) → k < many → bit_at found bits (slice_index_or aims k d) ≡ None

-- why a plan's run has no frames
abbrev pub IsRunFault : PlaceFault → Type 0
IsRunFault (Run f) = f ≡ NoMemory
IsRunFault Memory = Unit {0}
IsRunFault StrikeCount = ⊥
IsRunFault (NoPlace item frames last) = ⊥
