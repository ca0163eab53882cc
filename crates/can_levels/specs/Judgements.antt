-- What a level is, after the levels before it: the next one of a line, or the first wrong one.
use Rattle.std.specs.Prelude.{List, [], ◌∷◌, ◌++◌, Option, Some, None}
use Rattle.can_levels.specs.declared.level.Level.{Level}
use Rattle.can_levels.specs.declared.shift_event.ShiftEvent.{ShiftEvent}
use Rattle.can_levels.specs.declared.shift_fault.ShiftFault.{ShiftFault}
use Rattle.can_levels.specs.Segments.{IsNext}
use Rattle.can_levels.specs.Streaming.{IsReadable, BreaksWith}

-- the event of a wrong level
abbrev pub fault_event : ShiftFault → ShiftEvent
fault_event w = record { segment = w.segment; stuff = w.stuff; frame = None; fault = Some w.fault }

-- the next level is right after these, or wrong: then the segment that it belongs to, whether it is a stuff bit, and
-- what is wrong with it
abbrev pub JudgesAt : List Level → Level → Option ShiftFault → Type 0
JudgesAt l x None = IsReadable (l ++ x ∷ [])
JudgesAt l x (Some w) = IsNext l w.segment w.stuff × BreaksWith l x w.fault
