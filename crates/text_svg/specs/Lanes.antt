-- The lanes of a drawing, as functions of the number of a bit (this project's own rule). The first bit that is drawn is
-- first, told are the bits of all nodes, node by node, and hs those of one node.
use Rattle.std.specs.Prelude.{◌%◌, ◌==◌, ℕ, Bool, true, false, if◌then◌else◌, Option, Some, None}
use Rattle.std.specs.Prelude.{List, [], ◌++◌, take, slice_get, codes, decimal}
use Rattle.std.specs.List.{range_with_len}
use Rattle.can_levels.specs.declared.level.Level.{Level}
use Rattle.can_frame.specs.Frame.{FrameValue}
use Rattle.can_notation.specs.Text.{text as frame_text}
use Rattle.lemmas.specs.Gathering.{gathered}
use Rattle.text_picture.specs.EqualLevels.{is_after_five}
use Rattle.text_picture.specs.Letters.{is_struck}
use Rattle.text_picture.specs.Rows.{bus_in}
use Rattle.sja_replay.specs.declared.reception.Reception.{Reception}
use Rattle.sja_replay.specs.declared.reception.Reception.TheVariants.{Stored, Overrun, Stopped}
use Rattle.sja_replay.specs.declared.bit_event.BitEvent.{BitEvent}
use Rattle.text_trace.specs.TraceText.{driven_in}
use Rattle.text_svg.specs.Elements.{step_to, box_of, struck_sign, stored_sign, lost_sign}
use Rattle.text_svg.specs.Kinds.{kind_of}
use Rattle.text_svg.specs.Places.{bits_width, place_in, node_top, line_height, level_line, counter_line}

-- ---- the ruler: a line and a number at each tenth bit; the line goes through the lanes of so many nodes

abbrev pub tick_at : ℕ → ℕ → ℕ → List ℕ
tick_at height x bit =
    codes "<path class='tick' d='M" ++ decimal x ++ codes " 18v" ++ decimal height
    ++ codes "'/><text class='number' x='" ++ decimal x ++ codes "' y='12'>" ++ decimal bit ++ codes "</text>\n"

abbrev pub mark_at : ℕ → ℕ → ℕ → List ℕ
mark_at height x bit = if bit % 10 == 0 then tick_at height x bit else []

abbrev pub mark_in : ℕ → ℕ → ℕ → List ℕ
mark_in nodes first bit = mark_at (line_height nodes) (place_in first bit) bit

-- ---- the bus: the level that all nodes drive together

abbrev pub bus_step : List (List BitEvent) → ℕ → ℕ → List ℕ
bus_step told first bit = step_to (place_in first bit) (level_line (bus_in told bit))

-- ---- a node: boxes; nothing stands where the node has no such bit

abbrev pub box_if : ℕ → Bool → Option BitEvent → List ℕ
box_if x after_five None = []
box_if x after_five (Some h) = box_of x (kind_of after_five h) h

abbrev pub box_in : List BitEvent → ℕ → ℕ → List ℕ
box_in hs first bit = box_if (place_in first bit) (is_after_five (take bit hs)) (slice_get hs bit)

-- ---- the level that it drives; recessive where it has no such bit

abbrev pub level_step : List BitEvent → ℕ → ℕ → List ℕ
level_step hs first bit = step_to (place_in first bit) (level_line (driven_in (slice_get hs bit)))

-- ---- signs: that it was struck in the bit, and what became of the message of a frame that it received with the bit. A
-- frame that the acceptance filter stopped has none

abbrev pub strike_if : ℕ → ℕ → Bool → List ℕ
strike_if x bit true = struck_sign x bit
strike_if x bit false = []

abbrev pub reception_if : ℕ → ℕ → Option FrameValue → Option Reception → List ℕ
reception_if x bit None reception = []
reception_if x bit (Some f) None = []
reception_if x bit (Some f) (Some Stored) = stored_sign x bit (frame_text f)
reception_if x bit (Some f) (Some (Overrun length free)) = lost_sign x bit (frame_text f)
reception_if x bit (Some f) (Some Stopped) = []

abbrev pub signs_if : ℕ → Level → Option BitEvent → List ℕ
signs_if x bus None = []
signs_if x bus (Some h) = strike_if x h.bit (is_struck bus h) ++ reception_if x h.bit h.events.received h.reception

abbrev pub signs_in : (ℕ → Level) → List BitEvent → ℕ → ℕ → List ℕ
signs_in bus hs first bit = signs_if (place_in first bit) (bus bit) (slice_get hs bit)

-- ---- the error counters after the bit; 0 where it has no such bit

abbrev pub tec_in : Option BitEvent → ℕ
tec_in None = 0
tec_in (Some h) = h.after.counters.tec

abbrev pub rec_in : Option BitEvent → ℕ
rec_in None = 0
rec_in (Some h) = h.after.counters.rec

abbrev pub tec_step : List BitEvent → ℕ → ℕ → List ℕ
tec_step hs first bit = step_to (place_in first bit) (counter_line (tec_in (slice_get hs bit)))

abbrev pub rec_step : List BitEvent → ℕ → ℕ → List ℕ
rec_step hs first bit = step_to (place_in first bit) (counter_line (rec_in (slice_get hs bit)))

-- ---- the lane of a node: its boxes, its level, its signs, and its counters with lines at 256, 128, 96 and 0

abbrev pub lane_head : ℕ → List ℕ
lane_head node =
    codes "<g transform='translate(72 " ++ decimal (node_top node)
    ++ codes ")'>\n<text class='name' x='-64' y='17'>node " ++ decimal node ++ codes "</text>\n"

abbrev pub lane_bits : List ℕ → List ℕ → List ℕ → List ℕ
lane_bits boxes levels signs = boxes ++ codes "<path class='level' d='" ++ levels ++ codes "'/>\n" ++ signs

-- a counter has half a pixel for each count
abbrev pub scale_head : List ℕ
scale_head =
    codes "<text class='tecs' x='-64' y='116'>TEC</text><text class='recs' x='-64' y='132'>REC</text>\n"
    ++ codes "<text class='count' x='-6' y='60'>256</text><text class='count' x='-6' y='124'>128</text>\n"
    ++ codes "<text class='count' x='-6' y='140'>96</text><text class='count' x='-6' y='188'>0</text>\n"
    ++ codes "<g transform='translate(0 56) scale(1 .5)'>\n"

abbrev pub scale_lines : ℕ → List ℕ
scale_lines width =
    codes "<path class='scale' d='M0 0h" ++ decimal width ++ codes "M0 128h" ++ decimal width ++ codes "M0 160h"
    ++ decimal width ++ codes "M0 256h" ++ decimal width ++ codes "'/>\n"

abbrev pub counter_lines : List ℕ → List ℕ → List ℕ
counter_lines tecs recs =
    codes "<path class='rec' d='" ++ recs ++ codes "'/>\n<path class='tec' d='" ++ tecs ++ codes "'/>\n</g>\n</g>\n"

abbrev pub lane_counters : ℕ → List ℕ → List ℕ → List ℕ
lane_counters width tecs recs = scale_head ++ scale_lines width ++ counter_lines tecs recs

abbrev pub lane_of : (ℕ → Level) → ℕ → ℕ → ℕ → List BitEvent → List ℕ
lane_of bus first many node hs =
    lane_head node
    ++ lane_bits (gathered (box_in hs first) (range_with_len first many))
    (gathered (level_step hs first) (range_with_len first many))
    (gathered (signs_in bus hs first) (range_with_len first many))
    ++ lane_counters (bits_width many) (gathered (tec_step hs first) (range_with_len first many))
    (gathered (rec_step hs first) (range_with_len first many))
