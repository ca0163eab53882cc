-- Where a node is with a bit, and the bit in which it lost arbitration (sources as named).
use Rattle.std.specs.Prelude.{◌-◌, ◌==◌, ℕ, Bool, true, false, nat_le, if◌then◌else◌, Option, Some, None}
use Rattle.std.specs.Prelude.{List, [], ◌++◌, codes, decimal}
use Rattle.can_levels.specs.declared.segment.Segment.{Segment}
use Rattle.can_node_rules.specs.declared.phase.Phase.{Phase}
use Rattle.can_node_rules.specs.declared.phase.Phase.TheVariants.{Reset, Waiting, Idle, Frame, Flag, Delimiter}
use Rattle.can_node_rules.specs.declared.phase.Phase.TheVariants.{Intermission, Suspension}
use Rattle.sja_replay.specs.declared.view.View.{View}
use Rattle.text_trace.specs.Names.{segment_name, flag_name}

-- the number of the identifier bit that has this place code (SJA1000 data sheet, 6.4.8): 0 to 10 are ID.28 to ID.18,
-- and 13 to 30 ID.17 to ID.0
abbrev pub identifier_bit : ℕ → ℕ
identifier_bit code = if nat_le code 10 then 28 - code else 30 - code

-- the bit of the arbitration field that has this place code (SJA1000 data sheet, 6.4.8): 0 to 10 are ID.28 to ID.18, 11
-- is RTR of a standard frame or SRR of an extended one, 12 IDE, 13 to 30 ID.17 to ID.0, and 31 RTR of an extended frame
abbrev pub place_name : ℕ → List ℕ
place_name code =
    if code == 11 then codes "SRTR"
    else if code == 12 then codes "IDE"
    else if code == 31 then codes "RTR"
    else codes "ID." ++ decimal (identifier_bit code)

-- the segment, if there is one
abbrev pub segment_text : Option Segment → List ℕ
segment_text None = []
segment_text (Some segment) = segment_name segment

-- whose frame it is
abbrev pub owner_text : Bool → List ℕ
owner_text true = codes ", own frame"
owner_text false = codes ", frame of another"

-- by the phase, and in a frame by the segment
abbrev pub phase_text : Phase → View → List ℕ
phase_text Reset v = codes "in reset"
phase_text Waiting v = codes "waiting for the bus"
phase_text Idle v = codes "idle"
phase_text Frame v = segment_text v.segment ++ owner_text v.transmits
phase_text Flag v = flag_name v.flag
phase_text Delimiter v = codes "delimiter"
phase_text Intermission v = codes "intermission"
phase_text Suspension v = codes "suspend transmission"

abbrev pub where_text : View → List ℕ
where_text v = phase_text v.phase v
