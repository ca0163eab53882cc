-- A drawing, as far as it came.
use Rattle.std.specs.Prelude.{◌≡◌, ◌+◌, ◌-◌, ℕ, List, ◌++◌, length, string_bytes}
use Rattle.std.specs.List.{range_with_len}
use Rattle.lemmas.specs.Gathering.{gathered}
use Rattle.lemmas.specs.Related.{EachRelated}
use Rattle.text_picture.specs.Rows.{bus_in}
use Rattle.text_picture.specs.Drawing.{AreShown, InFull, EachBeside}
use Rattle.sja_replay.specs.declared.bit_event.BitEvent.{BitEvent}
use Rattle.text_report.specs.ReportLines.{numbered}
use Rattle.text_trace.specs.declared.node_trace.NodeTrace.{NodeTrace}
use Rattle.text_trace.specs.TraceProgress.{driven_now}
use Rattle.can_levels.specs.BusLevel.{wired}
use Rattle.text_svg.specs.declared.lane.Lane.{Lane}
use Rattle.text_svg.specs.declared.sheet.Sheet.{Sheet}
use Rattle.text_svg.specs.Elements.{step_to}
use Rattle.text_svg.specs.Lanes.{mark_at, mark_in, bus_step}
use Rattle.text_svg.specs.Places.{bits_width, level_line, line_height}
use Rattle.text_svg.specs.Sheets.{top, foot}
use Rattle.text_svg.specs.Inside.Drawing.{Draws, IsLane, shown_lane}

-- the bit at hand is drawn at x
pub record DrawsBit (x bit : ℕ) (node_traces : List NodeTrace) (olds news : List Lane) (old new : Sheet) : Type 0 where
  pub marks : string_bytes new.marks ≡ string_bytes old.marks ++ mark_at (line_height (length olds)) x bit
  pub bus : string_bytes new.bus ≡ string_bytes old.bus ++ step_to x (level_line (wired (driven_now node_traces)))
  pub lanes : EachBeside (InFull (Draws x (wired (driven_now node_traces)))) node_traces olds news

-- what was drawn of the bits before this one
pub record IsDrawn (first bit : ℕ) (sheet : Sheet) (lanes : List Lane) (told : List (List BitEvent)) : Type 0 where
  pub marks_are : string_bytes sheet.marks
      ≡ gathered (mark_in (length told) first) (range_with_len first (bit - first))
  pub bus_is : string_bytes sheet.bus ≡ gathered (bus_step told first) (range_with_len first (bit - first))
  pub lanes_are : EachRelated (IsLane (bus_in told) first bit) told lanes

-- a bit more was drawn, where the node traces have it at hand
abbrev pub TakesBit : ℕ → ℕ → List NodeTrace → List Lane → List Lane → Sheet → Sheet → Type 0
TakesBit first bit node_traces olds news old new =
    (told : List (List BitEvent)) → AreShown bit node_traces told → IsDrawn first bit old olds told →
    IsDrawn first (bit + 1) new news told

-- what is written of it
abbrev pub shown_sheet : ℕ → Sheet → List Lane → List ℕ
shown_sheet many sheet lanes =
    top (length lanes) many (string_bytes sheet.marks) (string_bytes sheet.bus)
    ++ numbered (shown_lane (bits_width many)) 0 lanes ++ foot (length lanes)
