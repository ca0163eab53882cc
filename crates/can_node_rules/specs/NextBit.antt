-- What the cut of a record says of the next bit: the context in it, its phase, the level that is driven in it (this
-- project's own rule). No node is named here: each of these is a function of the record, since a record has one cut.
use Rattle.std.specs.Prelude.{Bool, true, false, if◌then◌else◌, List, []}
use Rattle.can_levels.specs.declared.level.Level.{Level}
use Rattle.can_node_rules.specs.declared.phase.Phase.{Phase}
use Rattle.can_node_rules.specs.declared.phase.Phase.TheVariants.{Reset, Waiting, Idle as IdlePhase}
use Rattle.can_node_rules.specs.declared.phase.Phase.TheVariants.{Frame as FramePhase, Flag as FlagPhase}
use Rattle.can_node_rules.specs.declared.phase.Phase.TheVariants.{Delimiter as DelimiterPhase, Intermission, Suspension}
use Rattle.can_node_rules.specs.Bits.{Bit}
use Rattle.can_node_rules.specs.Context.{ContextValue, is_held}
use Rattle.can_node_rules.specs.Record.{RecordEntry, bits_in}
use Rattle.can_node_rules.specs.Effects.{along}
use Rattle.can_node_rules.specs.Cut.{FinishedPiece, IsCut}
use Rattle.can_node_rules.specs.Driving.{Drives, phase_at}

-- the context of the next bit
abbrev pub now_in : {entries : List RecordEntry} {found : List FinishedPiece} → IsCut entries found → ContextValue
now_in cut = along cut.context cut.place [] cut.rest

-- the bits that came of the piece that isn't finished
abbrev pub open_bits : {entries : List RecordEntry} {found : List FinishedPiece} → IsCut entries found → List Bit
open_bits cut = bits_in cut.rest

-- the phase of the next bit
abbrev pub phase_in : {entries : List RecordEntry} {found : List FinishedPiece} → IsCut entries found → Phase
phase_in cut = phase_at cut.place (open_bits cut)

-- the level is the one that is driven in the next bit
abbrev pub DrivesIn : {entries : List RecordEntry} {found : List FinishedPiece} → IsCut entries found → Level → Type 0
DrivesIn cut x = Drives (now_in cut) cut.place (open_bits cut) x

-- at rest: in reset, or idle with no request
abbrev pub rests_in : Phase → Bool → Bool
rests_in Reset held = true
rests_in IdlePhase held = if held then false else true
rests_in Waiting held = false
rests_in FramePhase held = false
rests_in FlagPhase held = false
rests_in DelimiterPhase held = false
rests_in Intermission held = false
rests_in Suspension held = false

-- whether nothing is to come of its own accord
abbrev pub is_at_rest : {entries : List RecordEntry} {found : List FinishedPiece} → IsCut entries found → Bool
is_at_rest cut = rests_in (phase_in cut) (is_held (now_in cut).held)
