-- The levels that a reader of one level at a time was given, and how it judges the next one (this project's own rule).
use Rattle.std.specs.Prelude.{◌≡◌, List, ◌∷◌, ◌++◌, Option, Some, None}
use Rattle.can_levels.specs.declared.level.Level.{Level}
use Rattle.can_levels.specs.declared.shift_fault.ShiftFault.{ShiftFault}
use Rattle.can_bits.specs.declared.shift.Shift.{Shift}
use Rattle.can_levels.specs.Streaming.{IsEventOf}
use Rattle.can_bits.specs.Inside.FrameParts.{ReadsAt}
use Rattle.can_levels.specs.Judgements.{fault_event}

-- a level was wrong, and the reader still stands for those before it
pub record Broke (w : ShiftFault) (s : Shift) (l : List Level) : Type 0 where
  pub front : List Level
  pub wrong : Level
  pub later : List Level
  pub whole : l ≡ front ++ wrong ∷ later
  pub reads : ReadsAt s.frame_part s front
  pub event : IsEventOf front wrong (fault_event w)

-- a reader without a fault, or with one
abbrev pub StandsBy : Option ShiftFault → Shift → List Level → Type 0
StandsBy None s l = ReadsAt s.frame_part s l
StandsBy (Some w) s l = Broke w s l

-- the reader was given these levels
abbrev pub StandsFor : Shift → List Level → Type 0
StandsFor s l = StandsBy s.wrong s l
