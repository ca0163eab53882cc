-- The drawing of the bits of a run (this project's own rule).
use Rattle.std.specs.Prelude.{◌≡◌, ◌-◌, ℕ, Option, List, ◌++◌, length}
use Rattle.std.specs.List.{range_with_len}
use Rattle.lemmas.specs.Gathering.{gathered}
use Rattle.lemmas.specs.Related.{EachRelated}
use Rattle.text_frames.specs.FrameStories.{HasTold}
use Rattle.sja_log.specs.Log.{RunValue}
use Rattle.text_picture.specs.PictureText.{end_after}
use Rattle.text_picture.specs.Rows.{bus_in}
use Rattle.sja_replay.specs.declared.bit_event.BitEvent.{BitEvent}
use Rattle.text_report.specs.ReportLines.{numbered}
use Rattle.text_svg.specs.Lanes.{mark_in, bus_step, lane_of}
use Rattle.text_svg.specs.Sheets.{top, foot}

-- the bits of all nodes, from this bit on so many: the ruler, the bus, a lane for each node, and the legend
abbrev pub sheet_text : List (List BitEvent) → ℕ → ℕ → List ℕ
sheet_text told first many =
    top (length told) many (gathered (mark_in (length told) first) (range_with_len first many))
    (gathered (bus_step told first) (range_with_len first many))
    ++ numbered (lane_of (bus_in told) first many) 0 told
    ++ foot (length told)

-- the text is the drawing of the bits of a run from a first to a last one, as in a picture
pub record IsDrawing (log : RunValue) (first : ℕ) (last : Option ℕ) (text : List ℕ) : Type 0 where
  pub told : List (List BitEvent)
  pub have : EachRelated HasTold log.nodes told
  pub whole : text ≡ sheet_text told first (end_after last log.bits - first)
