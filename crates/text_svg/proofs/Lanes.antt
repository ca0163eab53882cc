-- The lanes of nodes, drawn bit by bit.
use Rattle.std.proofs.Common.{◌≡◌, ℕ, ◌+◌, ◌-◌, ◌<◌, ◌≤◌, suc, Option, List, [], ◌∷◌, ◌++◌, take}
use Rattle.std.proofs.Common.{string_bytes, refl, sym, ap, ap₂, ◌∙◌, arith}
use Rattle.std.specs.Prelude.{slice_get}
use Rattle.std.specs.List.{range_with_len}
use Rattle.can_levels.specs.declared.level.Level.{Level}
use Rattle.lemmas.specs.Gathering.{gathered}
use Rattle.lemmas.specs.Related.{EachRelated}
use Rattle.lemmas.proofs.Ranges.{gathered_from, gathered_before}
use Rattle.text_frames.specs.declared.run.Run.{Run}
use Rattle.text_picture.specs.EqualLevels.{from_start}
use Rattle.text_picture.specs.Drawing.{run_past, run_after, is_full, AreShown, InFull, EachBeside}
use Rattle.text_picture.proofs.NodeRows.Runs.{run_next, full_is}
use Rattle.sja_replay.specs.declared.bit_event.BitEvent.{BitEvent}
use Rattle.text_report.specs.ReportLines.{numbered}
use Rattle.text_trace.specs.Telling.{at_hand}
use Rattle.text_report.proofs.WrittenLines.Written.{three_texts}
use Rattle.text_trace.specs.TraceText.{driven_in}
use Rattle.text_trace.specs.declared.node_trace.NodeTrace.{NodeTrace}
use Rattle.text_svg.specs.declared.lane.Lane.{Lane}
use Rattle.text_svg.specs.Elements.{step_to}
use Rattle.text_svg.specs.Lanes.{box_if, box_in, level_step, signs_if, signs_in, tec_in, rec_in, tec_step, rec_step}
use Rattle.text_svg.specs.Lanes.{lane_head, lane_bits, lane_counters, lane_of}
use Rattle.text_svg.specs.Places.{bits_width, place_in, level_line, counter_line}
use Rattle.text_svg.specs.Inside.Drawing.{IsFresh, Passes, Draws, IsLane, shown_lane}

-- ---- a part of a lane: before the first bit that is shown, and with one bit more

pub none_yet : (f : ℕ → List ℕ) (first : ℕ) (text : List ℕ) → text ≡ [] →
    text ≡ gathered f (range_with_len first (0 - first))
none_yet f first text none = none ∙ sym (gathered_before f first 0 (omega arith))

pub still_none : (f : ℕ → List ℕ) (first bit : ℕ) (old new : List ℕ) → bit < first → new ≡ old →
    old ≡ gathered f (range_with_len first (bit - first)) → new ≡ gathered f (range_with_len first ((bit + 1) - first))
still_none f first bit old new before same is =
    same ∙ is ∙ gathered_before f first bit (omega (arith, before))
    ∙ sym (gathered_before f first (bit + 1) (omega (arith, before)))

pub one_more : (f : ℕ → List ℕ) (first bit : ℕ) (old new more : List ℕ) → first ≤ bit → new ≡ old ++ more →
    more ≡ f bit → old ≡ gathered f (range_with_len first (bit - first)) →
    new ≡ gathered f (range_with_len first ((bit + 1) - first))
one_more f first bit old new more reached wrote same is =
    wrote ∙ ap₂ (λ (l m : List ℕ). l ++ m) is same ∙ sym (gathered_from f first bit reached)

-- ---- the lane of a node

pub fresh_lane : (bus : ℕ → Level) (first : ℕ) (hs : List BitEvent) (lane : Lane) → IsFresh lane →
    IsLane bus first 0 hs lane
fresh_lane bus first hs lane fresh = record {
  run = fresh.run;
  boxes = none_yet (box_in hs first) first (string_bytes lane.boxes) fresh.boxes;
  levels = none_yet (level_step hs first) first (string_bytes lane.levels) fresh.levels;
  signs = none_yet (signs_in bus hs first) first (string_bytes lane.signs) fresh.signs;
  tecs = none_yet (tec_step hs first) first (string_bytes lane.tecs) fresh.tecs;
  recs = none_yet (rec_step hs first) first (string_bytes lane.recs) fresh.recs;
}

run_on_to : (hs : List BitEvent) (bit : ℕ) (o : Option BitEvent) (old new : Option Run) → o ≡ slice_get hs bit →
    old ≡ run_after (take bit hs) → new ≡ run_past old o → new ≡ run_after (take (bit + 1) hs)
run_on_to hs bit o old new is before past =
    let one : suc bit ≡ bit + 1 = omega arith in
    past ∙ ap₂ run_past before is ∙ run_next hs bit ∙ ap (λ (n : ℕ). run_after (take n hs)) one

-- a bit before the first one that is shown
pub passed_lane : (bus : ℕ → Level) (first bit : ℕ) (hs : List BitEvent) (o : Option BitEvent) (old new : Lane) →
    bit < first → o ≡ slice_get hs bit → IsLane bus first bit hs old → Passes o old new →
    IsLane bus first (bit + 1) hs new
passed_lane bus first bit hs o old new before is l p = record {
  run = run_on_to hs bit o old.run new.run is l.run p.run;
  boxes = still_none (box_in hs first) first bit _ _ before p.boxes l.boxes;
  levels = still_none (level_step hs first) first bit _ _ before p.levels l.levels;
  signs = still_none (signs_in bus hs first) first bit _ _ before p.signs l.signs;
  tecs = still_none (tec_step hs first) first bit _ _ before p.tecs l.tecs;
  recs = still_none (rec_step hs first) first bit _ _ before p.recs l.recs;
}

-- one that is shown
box_more : (first bit : ℕ) (hs : List BitEvent) (o : Option BitEvent) (run : Option Run) → o ≡ slice_get hs bit →
    run ≡ run_after (take bit hs) → box_if (place_in first bit) (is_full run) o ≡ box_in hs first bit
box_more first bit hs o run is before =
    ap₂ (λ (r : Option Run) (v : Option BitEvent). box_if (place_in first bit) (is_full r) v) before is
    ∙ ap (λ b. box_if (place_in first bit) b (slice_get hs bit)) (full_is (from_start (take bit hs)))

pub drawn_lane : (bus : ℕ → Level) (first bit : ℕ) (level : Level) (hs : List BitEvent) (o : Option BitEvent)
    (old new : Lane) → first ≤ bit → level ≡ bus bit → o ≡ slice_get hs bit → IsLane bus first bit hs old →
    Draws (place_in first bit) level o old new → IsLane bus first (bit + 1) hs new
drawn_lane bus first bit level hs o old new reached same is l d = record {
  run = run_on_to hs bit o old.run new.run is l.run d.run;
  boxes = one_more (box_in hs first) first bit _ _ _ reached d.boxes (box_more first bit hs o old.run is l.run)
      l.boxes;
  levels = one_more (level_step hs first) first bit _ _ _ reached d.levels
      (ap (λ v. step_to (place_in first bit) (level_line (driven_in v))) is) l.levels;
  signs = one_more (signs_in bus hs first) first bit _ _ _ reached d.signs
      (ap₂ (λ b v. signs_if (place_in first bit) b v) same is) l.signs;
  tecs = one_more (tec_step hs first) first bit _ _ _ reached d.tecs
      (ap (λ v. step_to (place_in first bit) (counter_line (tec_in v))) is) l.tecs;
  recs = one_more (rec_step hs first) first bit _ _ _ reached d.recs
      (ap (λ v. step_to (place_in first bit) (counter_line (rec_in v))) is) l.recs;
}

-- ---- of all nodes

-- what stands beside the node traces goes past the bit that they have at hand
pub each_shown : {A : Type 0} (R : Option BitEvent → A → A → Type 0) (P Q : List BitEvent → A → Type 0) (bit : ℕ) →
    ((hs : List BitEvent) (o : Option BitEvent) (old new : A) → o ≡ slice_get hs bit → P hs old → R o old new →
    Q hs new) → (told : List (List BitEvent)) (ts : List NodeTrace) (olds news : List A) → AreShown bit ts told →
    EachBeside (InFull R) ts olds news → EachRelated P told olds → EachRelated Q told news
each_shown R P Q bit goes [] [] [] [] shown r p = tt
each_shown R P Q bit goes [] [] [] (n ∷ news) shown r p = absurd r
each_shown R P Q bit goes [] [] (o ∷ olds) news shown r p = absurd r
each_shown R P Q bit goes [] (t ∷ ts) olds news shown r p = absurd shown
each_shown R P Q bit goes (hs ∷ told) [] olds news shown r p = absurd shown
each_shown R P Q bit goes (hs ∷ told) (t ∷ ts) [] news shown r p = absurd r
each_shown R P Q bit goes (hs ∷ told) (t ∷ ts) (o ∷ olds) [] shown r p = absurd r
each_shown R P Q bit goes (hs ∷ told) (t ∷ ts) (o ∷ olds) (n ∷ news) shown r p =
    (goes hs (at_hand t.bits) o n shown.0 p.0 r.0, each_shown R P Q bit goes told ts olds news shown.1 r.1 p.1)

-- the text of the lanes
bits_shown : (b c l m s t : List ℕ) → b ≡ c → l ≡ m → s ≡ t → lane_bits b l s ≡ lane_bits c m t
bits_shown b c l m s t p q r = ap (λ x. lane_bits x l s) p ∙ ap₂ (λ x y. lane_bits c x y) q r

-- written part by part
pub lane_texts : (width node : ℕ) (lane : Lane) (boxes levels signs tecs recs old t1 t2 t3 : List ℕ) →
    boxes ≡ string_bytes lane.boxes → levels ≡ string_bytes lane.levels → signs ≡ string_bytes lane.signs →
    tecs ≡ string_bytes lane.tecs → recs ≡ string_bytes lane.recs → t1 ≡ old ++ lane_head node →
    t2 ≡ t1 ++ lane_bits boxes levels signs → t3 ≡ t2 ++ lane_counters width tecs recs →
    t3 ≡ old ++ shown_lane width node lane
lane_texts width node lane boxes levels signs tecs recs old t1 t2 t3 b l s t r front bits counters =
    three_texts old t1 t2 t3 (lane_head node) (lane_bits boxes levels signs) (lane_counters width tecs recs) front bits
    counters
    ∙ ap₂ (λ (x y : List ℕ). old ++ (lane_head node ++ x ++ y)) (bits_shown _ _ _ _ _ _ b l s)
    (ap₂ (λ x y. lane_counters width x y) t r)

lane_shown : (bus : ℕ → Level) (first bit node : ℕ) (hs : List BitEvent) (lane : Lane) →
    IsLane bus first bit hs lane →
    shown_lane (bits_width (bit - first)) node lane ≡ lane_of bus first (bit - first) node hs
lane_shown bus first bit node hs lane l =
    ap₂ (λ (x y : List ℕ). lane_head node ++ x ++ y) (bits_shown _ _ _ _ _ _ l.boxes l.levels l.signs)
    (ap₂ (λ x y. lane_counters (bits_width (bit - first)) x y) l.tecs l.recs)

pub all_shown : (bus : ℕ → Level) (first bit node : ℕ) (told : List (List BitEvent)) (lanes : List Lane) →
    EachRelated (IsLane bus first bit) told lanes →
    numbered (shown_lane (bits_width (bit - first))) node lanes ≡ numbered (lane_of bus first (bit - first)) node told
all_shown bus first bit node [] [] l = refl
all_shown bus first bit node [] (x ∷ lanes) l = absurd l
all_shown bus first bit node (hs ∷ told) [] l = absurd l
all_shown bus first bit node (hs ∷ told) (x ∷ lanes) l =
    ap₂ (λ (a b : List ℕ). a ++ b) (lane_shown bus first bit node hs x l.0)
    (all_shown bus first bit (node + 1) told lanes l.1)
