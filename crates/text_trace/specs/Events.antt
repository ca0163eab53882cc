-- What is said of one bit of a node, event by event, each no text or one (this project's own rule). bus is the level
-- that all nodes drive together.
use Rattle.std.specs.Prelude.{◌&&◌, ◌||◌, not, ℕ, Bool, true, false}
use Rattle.std.specs.Prelude.{Option, Some, None, List, [], ◌∷◌, ◌++◌, codes, decimal}
use Rattle.can_frame.specs.Frame.{FrameValue}
use Rattle.can_levels.specs.declared.level.Level.{Level}
use Rattle.can_levels.specs.declared.level.Level.TheVariants.{Dominant, Recessive}
use Rattle.can_levels.specs.declared.segment.Segment.{Segment}
use Rattle.can_levels.specs.Places.{are_same}
use Rattle.can_node_rules.specs.declared.cause.Cause.{Cause}
use Rattle.can_node_rules.specs.declared.outcome.Outcome.{Outcome}
use Rattle.can_node_rules.specs.declared.outcome.Outcome.TheVariants.{Sent, Failed}
use Rattle.can_node_rules.specs.declared.phase.Phase.{Phase}
use Rattle.can_node_rules.specs.declared.phase.Phase.TheVariants.{Reset, Waiting, Idle, Frame, Flag, Delimiter}
use Rattle.can_node_rules.specs.declared.phase.Phase.TheVariants.{Intermission, Suspension}
use Rattle.can_node_rules.specs.declared.request.Request.{Request}
use Rattle.can_node_rules.specs.Context.{is_held}
use Rattle.can_notation.specs.Text.{text}
use Rattle.can_node_rules.specs.ErrorCode.{error_code}
use Rattle.sja_replay.specs.declared.reception.Reception.{Reception}
use Rattle.sja_replay.specs.declared.reception.Reception.TheVariants.{Stored, Overrun, Stopped}
use Rattle.sja_replay.specs.declared.bit_event.BitEvent.{BitEvent}
use Rattle.text_report.specs.ReportWords.{byte_word}
use Rattle.text_trace.specs.Names.{segment_name, cause_name, flag_name, level_name, role_name}
use Rattle.text_trace.specs.Places.{place_name, where_text}

-- an event where the test holds, and else none
abbrev pub said_if : Bool → List ℕ → List (List ℕ)
said_if true said = said ∷ []
said_if false said = []

-- ---- phases

abbrev pub is_frame : Phase → Bool
is_frame Frame = true
is_frame Reset = false
is_frame Waiting = false
is_frame Idle = false
is_frame Flag = false
is_frame Delimiter = false
is_frame Intermission = false
is_frame Suspension = false

abbrev pub is_flag : Phase → Bool
is_flag Flag = true
is_flag Reset = false
is_flag Waiting = false
is_flag Idle = false
is_flag Frame = false
is_flag Delimiter = false
is_flag Intermission = false
is_flag Suspension = false

-- ---- an abort that changed the node: a request in progress is kept, and any other dropped (SJA1000 data sheet, 6.4.4)

abbrev pub abort_text : Bool → List ℕ
abort_text true = codes "aborted in progress"
abort_text false = codes "aborted"

abbrev pub abort_said : BitEvent → List (List ℕ)
abort_said h = said_if h.aborted (abort_text (is_held h.before.held))

-- ---- SOF (Bosch CAN 2.0 part A section 3.1.1): a dominant level on an idle bus, or one in interframe space with which
-- a frame begins

abbrev pub is_dominant : Level → Bool
is_dominant Dominant = true
is_dominant Recessive = false

abbrev pub is_start_in : Phase → BitEvent → Bool
is_start_in Idle h = is_dominant h.driven || is_dominant h.seen
is_start_in Intermission h = is_frame h.after.phase
is_start_in Suspension h = is_frame h.after.phase
is_start_in Reset h = false
is_start_in Waiting h = false
is_start_in Frame h = false
is_start_in Flag h = false
is_start_in Delimiter h = false

abbrev pub own_start_text : FrameValue → List ℕ
own_start_text f = codes "SOF of its own frame " ++ text f

abbrev pub start_text : Bool → Option Request → List ℕ
start_text true (Some request) = own_start_text request.frame
start_text true None = codes "SOF of another's frame"
start_text false held = codes "SOF of another's frame"

abbrev pub start_said : BitEvent → List (List ℕ)
start_said h = said_if (is_start_in h.before.phase h) (start_text h.after.transmits h.before.held)

-- ---- the other level than that of the bus

abbrev pub strike_text : BitEvent → List ℕ
strike_text h = codes "struck: sees " ++ (level_name h.seen ++ codes " (") ++ where_text h.before ++ codes ")"

abbrev pub strike_said : Level → BitEvent → List (List ℕ)
strike_said bus h = said_if (not (are_same h.seen bus)) (strike_text h)

-- ---- a receiver's dominant level in a frame is its acknowledgement (part A section 3.1.1)

abbrev pub acknowledgement_said : BitEvent → List (List ℕ)
acknowledgement_said h =
    said_if (is_frame h.before.phase && not h.before.transmits && is_dominant h.driven) (codes "acknowledges")

-- ---- lost arbitration, with the value of ALC where it is captured (SJA1000 data sheet, 6.4.8)

abbrev pub loss_text : ℕ → List ℕ
loss_text code = codes "arbitration lost in " ++ place_name code ++ codes ", ALC " ++ byte_word code

abbrev pub loss_in : Option ℕ → List (List ℕ)
loss_in None = []
loss_in (Some code) = loss_text code ∷ []

abbrev pub loss_said : BitEvent → List (List ℕ)
loss_said h = loss_in h.events.lost

-- ---- a fault, with the value of ECC where it is captured (SJA1000 data sheet, 6.4.9)

abbrev pub fault_words : Cause → Segment → Bool → List ℕ
fault_words cause segment receiving =
    cause_name cause ++ (codes " in " ++ (segment_name segment ++ (codes " as " ++ (role_name receiving
    ++ codes ", ECC "))))

abbrev pub fault_text : Cause → Segment → Bool → List ℕ
fault_text cause segment receiving =
    fault_words cause segment receiving ++ byte_word (error_code cause segment receiving)

abbrev pub fault_in : Option (Cause × Segment) → Bool → List (List ℕ)
fault_in None receiving = []
fault_in (Some fault) receiving = fault_text (fault.0) (fault.1) receiving ∷ []

abbrev pub fault_said : BitEvent → List (List ℕ)
fault_said h = fault_in h.events.fault h.events.receiving

-- ---- the flag that begins with the next bit (part A sections 3.1.3 and 3.1.4): after a flag another one only where a
-- fault broke it off

abbrev pub has_fault : Option (Cause × Segment) → Bool
has_fault None = false
has_fault (Some fault) = true

abbrev pub flag_begins : BitEvent → Bool
flag_begins h = is_flag h.after.phase && (not (is_flag h.before.phase) || has_fault h.events.fault)

abbrev pub flag_said : BitEvent → List (List ℕ)
flag_said h = said_if (flag_begins h) (flag_name h.after.flag ++ codes " follows")

-- ---- a frame that is valid for a receiver with this bit, and what became of it

abbrev pub received_text : Option Reception → List ℕ
received_text (Some Stored) = codes ", stored"
received_text (Some (Overrun length free)) =
    codes ", OVERRUN: " ++ (decimal length ++ (codes " bytes, " ++ (decimal free ++ codes " free")))
received_text (Some Stopped) = codes ", stopped by the filter"
received_text None = codes ", stopped by the filter"

abbrev pub reception_text : FrameValue → Option Reception → List ℕ
reception_text f reception = codes "received " ++ text f ++ received_text reception

abbrev pub reception_in : Option FrameValue → Option Reception → List (List ℕ)
reception_in None reception = []
reception_in (Some f) reception = reception_text f reception ∷ []

abbrev pub reception_said : BitEvent → List (List ℕ)
reception_said h = reception_in h.events.received h.reception

-- ---- the end of the request that was held before the bit

abbrev pub outcome_text : Outcome → List ℕ
outcome_text Sent = codes "sent "
outcome_text Failed = codes "failed and not tried again "

abbrev pub end_text : Outcome → FrameValue → List ℕ
end_text outcome f = outcome_text outcome ++ text f

abbrev pub end_in : Option Outcome → Option Request → List (List ℕ)
end_in None held = []
end_in (Some outcome) None = []
end_in (Some outcome) (Some request) = end_text outcome request.frame ∷ []

abbrev pub end_said : BitEvent → List (List ℕ)
end_said h = end_in h.events.ended h.before.held
