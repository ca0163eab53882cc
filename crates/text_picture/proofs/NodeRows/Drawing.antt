-- The rows of nodes, drawn bit by bit.
use Rattle.std.proofs.Common.{◌≡◌, ℕ, ◌+◌, ◌-◌, ◌<◌, ◌≤◌, suc, Option, List, [], ◌∷◌, ◌++◌, map, take}
use Rattle.std.proofs.Common.{codes, refl, sym, ap, ap₂, ◌∙◌, arith}
use Rattle.std.specs.Prelude.{slice_get}
use Rattle.can_levels.specs.declared.level.Level.{Level}
use Rattle.lemmas.specs.Related.{EachRelated}
use Rattle.lemmas.proofs.Ranges.{gathered_from, gathered_before}
use Rattle.text_frames.specs.declared.run.Run.{Run}
use Rattle.sja_replay.specs.declared.bit_event.BitEvent.{BitEvent}
use Rattle.text_report.specs.ReportLines.{numbered}
use Rattle.text_trace.specs.declared.node_trace.NodeTrace.{NodeTrace}
use Rattle.text_trace.specs.TraceProgress.{driven_now}
use Rattle.text_trace.specs.Hands.{IsHand}
use Rattle.text_trace.specs.Passing.{hands_driven}
use Rattle.text_trace.specs.Telling.{at_hand}
use Rattle.text_trace.specs.TraceText.{driven_in}
use Rattle.text_trace.proofs.BitSaid.Shorts.{hand_driven}
use Rattle.can_levels.specs.BusLevel.{wired}
use Rattle.text_picture.specs.declared.node_rows.NodeRows.{NodeRows}
use Rattle.text_picture.specs.PictureText.{node_head, node_rows}
use Rattle.text_picture.specs.Rows.{level_sign, bus_in, driven_sign, letter_in}
use Rattle.text_picture.specs.Drawing.{run_past, hand_run, run_after, letter_after, IsFresh, Passes}
use Rattle.text_picture.specs.Drawing.{Draws, Clears, shown_rows, AreRows, AreShown, AreAtHand, EachBeside}
use Rattle.text_picture.proofs.NodeRows.Hands.{hand_run_is, hand_letter_is}
use Rattle.text_picture.proofs.NodeRows.Runs.{run_next, letter_is}

-- ---- the rows of a node

pub fresh_rows : (bus : ℕ → Level) (start : ℕ) (hs : List BitEvent) (rows : NodeRows) → IsFresh rows →
    AreRows bus start 0 hs rows
fresh_rows bus start hs rows fresh = record {
  run = fresh.run;
  levels = fresh.levels ∙ sym (gathered_before (driven_sign hs) start 0 (omega arith));
  letters = fresh.letters ∙ sym (gathered_before (letter_in bus hs) start 0 (omega arith));
}

-- the node trace has this bit of a node at hand
abbrev Hand : ℕ → NodeTrace → List BitEvent → Type 0
Hand bit t hs = IsHand t.short (at_hand t.bits) (slice_get hs bit)

run_on_to : (hs : List BitEvent) (bit : ℕ) (t : NodeTrace) (old new : NodeRows) → Hand bit t hs →
    old.run ≡ run_after (take bit hs) → new.run ≡ hand_run old.run t.short (at_hand t.bits) →
    new.run ≡ run_after (take (bit + 1) hs)
run_on_to hs bit t old new hand before past =
    let one : suc bit ≡ bit + 1 = omega arith in
    past ∙ hand_run_is old.run t.short (at_hand t.bits) (slice_get hs bit) hand
    ∙ ap (λ (r : Option Run). run_past r (slice_get hs bit)) before ∙ run_next hs bit
    ∙ ap (λ (n : ℕ). run_after (take n hs)) one

-- a bit before the first one that is shown
passed_rows : (bus : ℕ → Level) (start bit : ℕ) (hs : List BitEvent) (t : NodeTrace) (old new : NodeRows) →
    bit < start → Hand bit t hs → AreRows bus start bit hs old → Passes t old new → AreRows bus start (bit + 1) hs new
passed_rows bus start bit hs t old new before hand rows p = record {
  run = run_on_to hs bit t old new hand rows.run p.run;
  levels = p.levels ∙ rows.levels ∙ gathered_before (driven_sign hs) start bit (omega arith)
      ∙ sym (gathered_before (driven_sign hs) start (bit + 1) (omega arith));
  letters = p.letters ∙ rows.letters ∙ gathered_before (letter_in bus hs) start bit (omega arith)
      ∙ sym (gathered_before (letter_in bus hs) start (bit + 1) (omega arith));
}

-- one that is shown
drawn_rows : (bus : ℕ → Level) (start bit : ℕ) (hs : List BitEvent) (t : NodeTrace) (level : Level)
    (old new : NodeRows) → start ≤ bit → Hand bit t hs → level ≡ bus bit → AreRows bus start bit hs old →
    Draws level t old new → AreRows bus start (bit + 1) hs new
drawn_rows bus start bit hs t level old new reached hand same rows d = record {
  run = run_on_to hs bit t old new hand rows.run d.run;
  levels = d.levels
      ∙ ap₂ (λ l (x : Level). l ++ level_sign x) rows.levels
      (hand_driven t.short (at_hand t.bits) (slice_get hs bit) hand)
      ∙ sym (gathered_from (driven_sign hs) start bit reached);
  letters = d.letters
      ∙ ap₂ (λ l (x : List ℕ). l ++ x) rows.letters
      (hand_letter_is level old.run t.short (at_hand t.bits) (slice_get hs bit) hand
      ∙ ap₂ (λ (b : Level) (r : Option Run). letter_after b r (slice_get hs bit)) same rows.run
      ∙ letter_is (bus bit) (take bit hs) (slice_get hs bit))
      ∙ sym (gathered_from (letter_in bus hs) start bit reached);
}

-- a block ended before this bit
cleared_rows : (bus : ℕ → Level) (start bit : ℕ) (hs : List BitEvent) (old new : NodeRows) →
    AreRows bus start bit hs old → Clears old new → AreRows bus bit bit hs new
cleared_rows bus start bit hs old new rows c = record {
  run = c.run ∙ rows.run;
  levels = c.levels ∙ sym (gathered_before (driven_sign hs) bit bit (omega arith));
  letters = c.letters ∙ sym (gathered_before (letter_in bus hs) bit bit (omega arith));
}

-- ---- of all nodes

pub all_passed : (bus : ℕ → Level) (start bit : ℕ) (told : List (List BitEvent)) (ts : List NodeTrace)
    (olds news : List NodeRows) → bit < start → AreAtHand bit ts told → EachBeside Passes ts olds news →
    EachRelated (AreRows bus start bit) told olds → EachRelated (AreRows bus start (bit + 1)) told news
all_passed bus start bit [] [] [] [] before shown p rows = tt
all_passed bus start bit [] [] [] (n ∷ news) before shown p rows = absurd p
all_passed bus start bit [] [] (o ∷ olds) news before shown p rows = absurd p
all_passed bus start bit [] (t ∷ ts) olds news before shown p rows = absurd shown
all_passed bus start bit (hs ∷ told) [] olds news before shown p rows = absurd shown
all_passed bus start bit (hs ∷ told) (t ∷ ts) [] news before shown p rows = absurd p
all_passed bus start bit (hs ∷ told) (t ∷ ts) (o ∷ olds) [] before shown p rows = absurd p
all_passed bus start bit (hs ∷ told) (t ∷ ts) (o ∷ olds) (n ∷ news) before shown p rows = (
  passed_rows bus start bit hs t o n before shown.0 rows.0 p.0,
  all_passed bus start bit told ts olds news before shown.1 p.1 rows.1,
)

pub all_drawn : (bus : ℕ → Level) (start bit : ℕ) (level : Level) (told : List (List BitEvent)) (ts : List NodeTrace)
    (olds news : List NodeRows) → start ≤ bit → level ≡ bus bit → AreAtHand bit ts told →
    EachBeside (Draws level) ts olds news → EachRelated (AreRows bus start bit) told olds →
    EachRelated (AreRows bus start (bit + 1)) told news
all_drawn bus start bit level [] [] [] [] reached same shown d rows = tt
all_drawn bus start bit level [] [] [] (n ∷ news) reached same shown d rows = absurd d
all_drawn bus start bit level [] [] (o ∷ olds) news reached same shown d rows = absurd d
all_drawn bus start bit level [] (t ∷ ts) olds news reached same shown d rows = absurd shown
all_drawn bus start bit level (hs ∷ told) [] olds news reached same shown d rows = absurd shown
all_drawn bus start bit level (hs ∷ told) (t ∷ ts) [] news reached same shown d rows = absurd d
all_drawn bus start bit level (hs ∷ told) (t ∷ ts) (o ∷ olds) [] reached same shown d rows = absurd d
all_drawn bus start bit level (hs ∷ told) (t ∷ ts) (o ∷ olds) (n ∷ news) reached same shown d rows = (
  drawn_rows bus start bit hs t level o n reached shown.0 same rows.0 d.0,
  all_drawn bus start bit level told ts olds news reached same shown.1 d.1 rows.1,
)

pub all_cleared : (bus : ℕ → Level) (start bit : ℕ) (told : List (List BitEvent)) (olds news : List NodeRows) →
    EachRelated (AreRows bus start bit) told olds → EachRelated Clears olds news →
    EachRelated (AreRows bus bit bit) told news
all_cleared bus start bit [] [] [] rows c = tt
all_cleared bus start bit [] [] (n ∷ news) rows c = absurd c
all_cleared bus start bit [] (o ∷ olds) news rows c = absurd rows
all_cleared bus start bit (hs ∷ told) [] news rows c = absurd rows
all_cleared bus start bit (hs ∷ told) (o ∷ olds) [] rows c = absurd c
all_cleared bus start bit (hs ∷ told) (o ∷ olds) (n ∷ news) rows c =
    (cleared_rows bus start bit hs o n rows.0 c.0, all_cleared bus start bit told olds news rows.1 c.1)

-- the level of the bus
levels_shown : (bit : ℕ) (told : List (List BitEvent)) (ts : List NodeTrace) → AreShown bit ts told →
    driven_now ts ≡ map (λ (hs : List BitEvent). driven_in (slice_get hs bit)) told
levels_shown bit [] [] shown = refl
levels_shown bit [] (t ∷ ts) shown = absurd shown
levels_shown bit (hs ∷ told) [] shown = absurd shown
levels_shown bit (hs ∷ told) (t ∷ ts) shown =
    ap₂ (λ l r. l ∷ r) (ap driven_in shown.0) (levels_shown bit told ts shown.1)

pub bus_shown : (bit : ℕ) (told : List (List BitEvent)) (ts : List NodeTrace) → AreShown bit ts told →
    wired (driven_now ts) ≡ bus_in told bit
bus_shown bit told ts shown = ap wired (levels_shown bit told ts shown)

hands_shown : (bit : ℕ) (told : List (List BitEvent)) (ts : List NodeTrace) → AreAtHand bit ts told →
    hands_driven ts ≡ map (λ (hs : List BitEvent). driven_in (slice_get hs bit)) told
hands_shown bit [] [] shown = refl
hands_shown bit [] (t ∷ ts) shown = absurd shown
hands_shown bit (hs ∷ told) [] shown = absurd shown
hands_shown bit (hs ∷ told) (t ∷ ts) shown =
    ap₂ (λ l r. l ∷ r) (hand_driven t.short (at_hand t.bits) (slice_get hs bit) shown.0)
    (hands_shown bit told ts shown.1)

pub bus_at_hand : (bit : ℕ) (told : List (List BitEvent)) (ts : List NodeTrace) → AreAtHand bit ts told →
    wired (hands_driven ts) ≡ bus_in told bit
bus_at_hand bit told ts shown = ap wired (hands_shown bit told ts shown)

-- the text of the rows
rows_shown : (bus : ℕ → Level) (start bit node : ℕ) (hs : List BitEvent) (rows : NodeRows) →
    AreRows bus start bit hs rows → shown_rows node rows ≡ node_rows bus start (bit - start) node hs
rows_shown bus start bit node hs rows r =
    ap₂ (λ l m. (node_head node ++ (l ++ 10 ∷ [])) ++ (codes "        " ++ (m ++ 10 ∷ []))) r.levels r.letters

pub all_shown : (bus : ℕ → Level) (start bit node : ℕ) (told : List (List BitEvent)) (rows : List NodeRows) →
    EachRelated (AreRows bus start bit) told rows →
    numbered shown_rows node rows ≡ numbered (node_rows bus start (bit - start)) node told
all_shown bus start bit node [] [] r = refl
all_shown bus start bit node [] (o ∷ rows) r = absurd r
all_shown bus start bit node (hs ∷ told) [] r = absurd r
all_shown bus start bit node (hs ∷ told) (o ∷ rows) r =
    ap₂ (λ l m. l ++ m) (rows_shown bus start bit node hs o r.0) (all_shown bus start bit (node + 1) told rows r.1)
