-- A drawing, bit by bit.
use Rattle.std.proofs.Common.{◌≡◌, ℕ, ◌+◌, ◌-◌, ◌<◌, ◌≤◌, List, [], ◌++◌, length, string_bytes}
use Rattle.std.proofs.Common.{refl, ap, ap₂, ◌∙◌, subst}
use Rattle.std.proofs.lemmas.Slice.Zip.{AllZip-long}
use Rattle.can_levels.specs.declared.level.Level.{Level}
use Rattle.sja_log.specs.Log.{NodeValue}
use Rattle.text_picture.specs.Rows.{bus_in}
use Rattle.text_picture.specs.Drawing.{InFull, EachBeside}
use Rattle.text_picture.specs.Knowing.{Knows}
use Rattle.text_picture.specs.Pages.{AreFirst}
use Rattle.text_picture.proofs.NodeRows.Drawing.{bus_shown}
use Rattle.text_picture.proofs.WholePage.Pages.{first_each}
use Rattle.text_picture.proofs.NodeRows.Stories.{knows_first}
use Rattle.sja_replay.specs.declared.bit_event.BitEvent.{BitEvent}
use Rattle.text_report.specs.ReportLines.{numbered}
use Rattle.text_trace.specs.declared.node_trace.NodeTrace.{NodeTrace}
use Rattle.text_trace.specs.TraceProgress.{driven_now}
use Rattle.text_report.proofs.WrittenLines.Written.{three_texts}
use Rattle.can_levels.specs.BusLevel.{wired}
use Rattle.text_svg.specs.declared.lane.Lane.{Lane}
use Rattle.text_svg.specs.declared.sheet.Sheet.{Sheet}
use Rattle.text_svg.specs.Elements.{step_to}
use Rattle.text_svg.specs.Lanes.{mark_at, mark_in, bus_step, lane_of}
use Rattle.text_svg.specs.Places.{bits_width, place_in, level_line, line_height}
use Rattle.text_svg.specs.Sheets.{top, foot}
use Rattle.text_svg.specs.DrawingText.{sheet_text}
use Rattle.text_svg.specs.Inside.Drawing.{IsFresh, AreFresh, Passes, Draws, IsLane, shown_lane}
use Rattle.text_svg.specs.Inside.DrawingProgress.{DrawsBit, IsDrawn, TakesBit, shown_sheet}
use Rattle.text_svg.proofs.Lanes.{none_yet, still_none, one_more, fresh_lane, passed_lane, drawn_lane, each_shown}
use Rattle.text_svg.proofs.Lanes.{all_shown}

-- ---- before the first bit

pub sheet_first : (nodes : List NodeValue) (first : ℕ) (ts : List NodeTrace) (lanes : List Lane) (sheet : Sheet) →
    (begun : AreFirst nodes ts) → AreFresh nodes lanes → string_bytes sheet.marks ≡ [] → string_bytes sheet.bus ≡ [] →
    Knows nodes 0 ts (IsDrawn first 0 sheet lanes)
sheet_first nodes first ts lanes sheet begun fresh marks bus =
    knows_first nodes ts (IsDrawn first 0 sheet lanes) begun
    (λ told begin. record {
      marks_are = none_yet (mark_in (length told) first) first (string_bytes sheet.marks) marks;
      bus_is = none_yet (bus_step told first) first (string_bytes sheet.bus) bus;
      lanes_are = first_each (λ (n : NodeValue) (l : Lane). IsFresh l) (IsLane (bus_in told) first 0)
          (λ n hs l f. fresh_lane (bus_in told) first hs l f) 0 nodes ts begun.stories told lanes begun.have begin
          fresh;
    })

-- ---- bit by bit

-- not shown
pub sheet_passed : (first bit : ℕ) (ts : List NodeTrace) (olds news : List Lane) (sheet : Sheet) → bit < first →
    EachBeside (InFull Passes) ts olds news → TakesBit first bit ts olds news sheet sheet
sheet_passed first bit ts olds news sheet before p told shown d = record {
  marks_are = still_none (mark_in (length told) first) first bit _ _ before refl d.marks_are;
  bus_is = still_none (bus_step told first) first bit _ _ before refl d.bus_is;
  lanes_are = each_shown Passes (IsLane (bus_in told) first bit) (IsLane (bus_in told) first (bit + 1)) bit
      (λ hs o old new is l q. passed_lane (bus_in told) first bit hs o old new before is l q) told ts olds news shown p
      d.lanes_are;
}

-- shown
pub sheet_drawn : (first bit : ℕ) (ts : List NodeTrace) (olds news : List Lane) (old new : Sheet) → first ≤ bit →
    DrawsBit (place_in first bit) bit ts olds news old new → TakesBit first bit ts olds news old new
sheet_drawn first bit ts olds news old new reached draws told shown d =
    let same = bus_shown bit told ts shown in
    let x = place_in first bit in
    let many = AllZip-long (IsLane (bus_in told) first bit) told olds d.lanes_are in
    let level = wired (driven_now ts) in
    record {
      marks_are = one_more (mark_in (length told) first) first bit _ _ _ reached draws.marks
          (ap (λ (n : ℕ). mark_at (line_height n) x bit) many) d.marks_are;
      bus_is = one_more (bus_step told first) first bit _ _ _ reached draws.bus
          (ap (λ (b : Level). step_to x (level_line b)) same) d.bus_is;
      lanes_are = each_shown (Draws x level) (IsLane (bus_in told) first bit) (IsLane (bus_in told) first (bit + 1)) bit
          (λ hs o a b is l q. drawn_lane (bus_in told) first bit level hs o a b reached same is l q) told ts olds news
          shown draws.lanes d.lanes_are;
    }

-- ---- past the last bit

pub sheet_whole : (first end bit many : ℕ) (sheet : Sheet) (lanes : List Lane) (told : List (List BitEvent))
    (text : List ℕ) → text ≡ shown_sheet many sheet lanes → bit ≡ end → many ≡ end - first →
    IsDrawn first bit sheet lanes told → text ≡ sheet_text told first (end - first)
sheet_whole first end bit many sheet lanes told text written is so_many d =
    let count = AllZip-long (IsLane (bus_in told) first bit) told lanes d.lanes_are in
    let P : ℕ → Type 0 = λ e. shown_sheet (e - first) sheet lanes ≡ sheet_text told first (e - first) in
    written ∙ ap (λ (m : ℕ). shown_sheet m sheet lanes) so_many
    ∙ subst P is
    (ap₂ (λ (n : ℕ) (l : List ℕ). top n (bit - first) (string_bytes sheet.marks) (string_bytes sheet.bus) ++ l
    ++ foot n) count (all_shown (bus_in told) first bit 0 told lanes d.lanes_are)
    ∙ ap₂ (λ (m b : List ℕ). top (length told) (bit - first) m b
    ++ numbered (lane_of (bus_in told) first (bit - first)) 0 told ++ foot (length told)) d.marks_are d.bus_is)

-- written part by part
pub sheet_texts : (many width : ℕ) (sheet : Sheet) (lanes : List Lane) (marks bus old t1 t2 t3 : List ℕ) →
    width ≡ bits_width many → marks ≡ string_bytes sheet.marks → bus ≡ string_bytes sheet.bus → old ≡ [] →
    t1 ≡ old ++ top (length lanes) many marks bus → t2 ≡ t1 ++ numbered (shown_lane width) 0 lanes →
    t3 ≡ t2 ++ foot (length lanes) → t3 ≡ shown_sheet many sheet lanes
sheet_texts many width sheet lanes marks bus old t1 t2 t3 wide m b none above rows below =
    let rest = foot (length lanes) in
    three_texts old t1 t2 t3 (top (length lanes) many marks bus) (numbered (shown_lane width) 0 lanes) rest above rows
    below
    ∙ ap (λ (o : List ℕ). o ++ (top (length lanes) many marks bus ++ numbered (shown_lane width) 0 lanes ++ rest)) none
    ∙ ap (λ (w : ℕ). top (length lanes) many marks bus ++ numbered (shown_lane w) 0 lanes ++ rest) wide
    ∙ ap₂ (λ (x y : List ℕ). top (length lanes) many x y ++ numbered (shown_lane (bits_width many)) 0 lanes ++ rest) m b
