-- The rows of nodes, drawn bit by bit.
use Rattle.std.specs.Prelude.{◌≡◌, ◌==◌, ◌-◌, ℕ, Bool, false, if◌then◌else◌, Option, Some, None}
use Rattle.std.specs.Prelude.{List, [], ◌∷◌, ◌++◌, map, take, codes, slice_get, option_map, string_bytes}
use Rattle.std.specs.List.{range_with_len}
use Rattle.can_levels.specs.declared.level.Level.{Level}
use Rattle.can_levels.specs.declared.segment.Segment.{Segment}
use Rattle.can_levels.specs.Places.{are_same}
use Rattle.can_node_rules.specs.declared.flag_kind.FlagKind.{FlagKind}
use Rattle.can_node_rules.specs.declared.phase.Phase.{Phase}
use Rattle.can_node_rules.specs.declared.phase.Phase.TheVariants.{Reset, Waiting, Idle, Frame, Flag, Delimiter}
use Rattle.can_node_rules.specs.declared.phase.Phase.TheVariants.{Intermission, Suspension}
use Rattle.lemmas.specs.Gathering.{gathered}
use Rattle.lemmas.specs.Related.{EachRelated}
use Rattle.text_frames.specs.declared.run.Run.{Run}
use Rattle.text_frames.specs.FrameBits.{one_level, run_on, run_of}
use Rattle.text_frames.specs.Passing.{field_by}
use Rattle.sja_log.specs.Log.{NodeValue}
use Rattle.sja_replay.specs.declared.bit_event.BitEvent.{BitEvent}
use Rattle.sja_replay.specs.declared.short_bit.ShortBit.{ShortBit}
use Rattle.text_trace.specs.declared.node_trace.NodeTrace.{NodeTrace}
use Rattle.text_trace.specs.Hands.{IsHand, driven_of}
use Rattle.text_trace.specs.Telling.{at_hand}
use Rattle.text_picture.specs.declared.node_rows.NodeRows.{NodeRows}
use Rattle.text_picture.specs.EqualLevels.{is_start, from_start}
use Rattle.text_picture.specs.Letters.{frame_letter, flag_letter, letter}
use Rattle.text_picture.specs.Rows.{level_sign, driven_sign, letter_in}
use Rattle.text_picture.specs.PictureText.{node_head}

-- ---- the run of equal levels before a bit

-- past a bit, if there is one
abbrev pub run_with : Option Run → BitEvent → Option Run
run_with r h = if is_start h then Some (one_level h.seen) else option_map (λ (run : Run). run_on run h.seen) r

abbrev pub run_past : Option Run → Option BitEvent → Option Run
run_past r None = r
run_past r (Some h) = run_with r h

-- past a bit at hand, in short or else in full: with one in short no frame begins
abbrev pub hand_run : Option Run → Option ShortBit → Option BitEvent → Option Run
hand_run r None own = run_past r own
hand_run r (Some q) own = option_map (λ (run : Run). run_on run q.seen) r

-- after these bits, the first of which is SOF
abbrev pub run_since : List BitEvent → Option Run
run_since [] = None
run_since (sof ∷ hs) = Some (run_of (one_level sof.seen) (map (λ (h : BitEvent). h.seen) hs))

-- after all bits so far
abbrev pub run_after : List BitEvent → Option Run
run_after before = run_since (from_start before)

abbrev pub is_full : Option Run → Bool
is_full None = false
is_full (Some r) = r.count == 5

abbrev pub letter_after : Level → Option Run → Option BitEvent → List ℕ
letter_after bus r None = codes "."
letter_after bus r (Some h) = letter bus (is_full r) h

-- ---- the letter of a bit at hand, in short or else in full

-- of one that isn't SOF, by what the node showed before it
abbrev pub shown_letter : Phase → Bool → Option Segment → FlagKind → List ℕ
shown_letter Reset after_five segment flag = codes "."
shown_letter Waiting after_five segment flag = codes "w"
shown_letter Idle after_five segment flag = codes "-"
shown_letter Frame after_five segment flag = frame_letter after_five (field_by Frame segment)
shown_letter Flag after_five segment flag = flag_letter flag
shown_letter Delimiter after_five segment flag = codes "d"
shown_letter Intermission after_five segment flag = codes "i"
shown_letter Suspension after_five segment flag = codes "p"

abbrev pub short_letter : Level → Bool → ShortBit → List ℕ
short_letter bus after_five q =
    if are_same q.seen bus then shown_letter q.phase after_five q.segment q.flag else codes "x"

abbrev pub hand_letter : Level → Option Run → Option ShortBit → Option BitEvent → List ℕ
hand_letter bus r None own = letter_after bus r own
hand_letter bus r (Some q) own = short_letter bus (is_full r) q

-- ---- the rows of a node

pub record IsFresh (rows : NodeRows) : Type 0 where
  pub run : rows.run ≡ None
  pub levels : string_bytes rows.levels ≡ []
  pub letters : string_bytes rows.letters ≡ []

-- the bit at hand isn't shown
pub record Passes (t : NodeTrace) (old new : NodeRows) : Type 0 where
  pub run : new.run ≡ hand_run old.run t.short (at_hand t.bits)
  pub levels : string_bytes new.levels ≡ string_bytes old.levels
  pub letters : string_bytes new.letters ≡ string_bytes old.letters

-- it is shown, and the bus had this level in it
pub record Draws (bus : Level) (t : NodeTrace) (old new : NodeRows) : Type 0 where
  pub run : new.run ≡ hand_run old.run t.short (at_hand t.bits)
  pub levels : string_bytes new.levels ≡ string_bytes old.levels ++ level_sign (driven_of t.short (at_hand t.bits))
  pub letters : string_bytes new.letters
      ≡ string_bytes old.letters ++ hand_letter bus old.run t.short (at_hand t.bits)

-- the next block begins
pub record Clears (old new : NodeRows) : Type 0 where
  pub run : new.run ≡ old.run
  pub levels : string_bytes new.levels ≡ []
  pub letters : string_bytes new.letters ≡ []

abbrev pub shown_rows : ℕ → NodeRows → List ℕ
shown_rows node rows =
    (node_head node ++ (string_bytes rows.levels ++ 10 ∷ []))
    ++ (codes "        " ++ (string_bytes rows.letters ++ 10 ∷ []))

-- before this bit of a node its rows show the bits from the start of a block on
pub record AreRows (bus : ℕ → Level) (start bit : ℕ) (hs : List BitEvent) (rows : NodeRows) : Type 0 where
  pub run : rows.run ≡ run_after (take bit hs)
  pub levels : string_bytes rows.levels ≡ gathered (driven_sign hs) (range_with_len start (bit - start))
  pub letters : string_bytes rows.letters ≡ gathered (letter_in bus hs) (range_with_len start (bit - start))

-- ---- of all nodes

abbrev pub AreFresh : List NodeValue → List NodeRows → Type 0
AreFresh nodes rows = EachRelated (λ (n : NodeValue) (r : NodeRows). IsFresh r) nodes rows

-- the node traces and what stands beside them, as the rows of their nodes, are related
abbrev pub EachBeside : {A : Type 0} → (NodeTrace → A → A → Type 0) → List NodeTrace → List A → List A → Type 0
EachBeside R [] [] [] = Unit {0}
EachBeside R [] [] (n ∷ news) = ⊥
EachBeside R [] (o ∷ olds) news = ⊥
EachBeside R (t ∷ node_traces) [] news = ⊥
EachBeside R (t ∷ node_traces) (o ∷ olds) [] = ⊥
EachBeside R (t ∷ node_traces) (o ∷ olds) (n ∷ news) = R t o n × EachBeside R node_traces olds news

-- by the bits that they have at hand in full
abbrev pub InFull : {A : Type 0} → (Option BitEvent → A → A → Type 0) → NodeTrace → A → A → Type 0
InFull R t old new = R (at_hand t.bits) old new

-- the node traces have at hand what this bit of these stories brought, in short or else in full
abbrev pub AreAtHand : ℕ → List NodeTrace → List (List BitEvent) → Type 0
AreAtHand bit node_traces told =
    EachRelated (λ (t : NodeTrace) (hs : List BitEvent). IsHand t.short (at_hand t.bits) (slice_get hs bit))
    node_traces told

-- all of them in full
abbrev pub AreShown : ℕ → List NodeTrace → List (List BitEvent) → Type 0
AreShown bit node_traces told =
    EachRelated (λ (t : NodeTrace) (hs : List BitEvent). at_hand t.bits ≡ slice_get hs bit) node_traces told
