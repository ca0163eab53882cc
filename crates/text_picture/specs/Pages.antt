-- A picture, as far as it was drawn.
use Rattle.std.specs.Prelude.{◌≡◌, ◌<◌, ◌≤◌, ◌+◌, ◌-◌, ◌%◌, ◌||◌, ℕ, Bool, true, false, nat_lt, nat_le, max}
use Rattle.std.specs.Prelude.{if◌then◌else◌}
use Rattle.std.specs.Prelude.{List, [], ◌∷◌, ◌++◌, codes, decimal, string_bytes}
use Rattle.std.specs.List.{range_with_len, repeat}
use Rattle.can_levels.specs.declared.level.Level.TheVariants.{Recessive}
use Rattle.lemmas.specs.Gathering.{gathered}
use Rattle.lemmas.specs.Related.{EachRelated}
use Rattle.sja_log.specs.Log.{NodeValue}
use Rattle.sja_plan.specs.Plan.{PlanValue}
use Rattle.sja_replay.specs.declared.bit_event.BitEvent.{BitEvent}
use Rattle.text_report.specs.ReportLines.{numbered}
use Rattle.text_trace.specs.declared.node_trace.NodeTrace.{NodeTrace}
use Rattle.text_trace.specs.TraceProgress.{HaveTold}
use Rattle.text_trace.specs.Passing.{hands_driven}
use Rattle.text_trace.specs.TraceText.{NodeStory}
use Rattle.can_levels.specs.BusLevel.{wired}
use Rattle.text_picture.specs.declared.node_rows.NodeRows.{NodeRows}
use Rattle.text_picture.specs.declared.page.Page.{Page}
use Rattle.text_picture.specs.declared.span.Span.{Span}
use Rattle.text_picture.specs.Rows.{level_sign, ruler_in, bus_in, bus_sign}
use Rattle.text_picture.specs.PictureText.{row, to_ten, start_of, blocks, block_in}
use Rattle.text_picture.specs.Drawing.{Draws, Clears, AreRows, AreAtHand, EachBeside, shown_rows}
use Rattle.text_picture.specs.Inside.PictureRest.{Rests, AreResting}

-- ---- what is written

-- the bit at hand is drawn
pub record DrawsBit (node_traces : List NodeTrace) (olds news : List NodeRows) (old new : Page) : Type 0 where
  pub text : string_bytes new.text ≡ string_bytes old.text
  pub start : new.start ≡ old.start
  pub bus : string_bytes new.bus ≡ string_bytes old.bus ++ level_sign (wired (hands_driven node_traces))
  pub rows : EachBeside (Draws (wired (hands_driven node_traces))) node_traces olds news

-- so many bits are drawn in which all nodes rested
pub record DrawsRest (n : ℕ) (node_traces : List NodeTrace) (olds news : List NodeRows) (old new : Page) : Type 0 where
  pub text : string_bytes new.text ≡ string_bytes old.text
  pub start : new.start ≡ old.start
  pub bus : string_bytes new.bus ≡ string_bytes old.bus ++ repeat n (level_sign Recessive)
  pub rows : EachBeside (Rests n) node_traces olds news

-- the number of the ten in which a bit is
abbrev pub ten_of : ℕ → List ℕ
ten_of bit = decimal (bit - bit % 10)

-- a block ends before this bit
abbrev pub space_if : Bool → List ℕ
space_if later = if later then 10 ∷ [] else []

abbrev pub shown_block : ℕ → ℕ → List ℕ → List NodeRows → List ℕ
shown_block start many bus rows =
    row (codes "bit     ") ruler_in start (to_ten start many)
    ++ (codes "bus     " ++ (bus ++ 10 ∷ []))
    ++ numbered shown_rows 0 rows

pub record EndsBlock (span : Span) (stop : ℕ) (olds news : List NodeRows) (old new : Page) : Type 0 where
  pub text : string_bytes new.text
      ≡ string_bytes old.text
      ++ (space_if (nat_lt span.first old.start)
      ++ shown_block old.start (stop - old.start) (string_bytes old.bus) olds)
  pub start : new.start ≡ stop
  pub bus : string_bytes new.bus ≡ []
  pub rows : EachRelated Clears olds news

-- one ends before this bit where it is full, or no bit is left
abbrev pub ends : Span → ℕ → ℕ → Bool
ends span start stop = nat_le span.end stop || nat_le 120 (stop - start)

pub record MayEnd (span : Span) (stop : ℕ) (olds news : List NodeRows) (old new : Page) : Type 0 where
  pub over : ends span old.start stop ≡ true → EndsBlock span stop olds news old new
  pub on : ends span old.start stop ≡ false → (news ≡ olds) × (new ≡ old)

-- so many bits from this one on are before the first one that is shown, or else in a block that begins with bit start
pub record HasRoom (span : Span) (bit n start : ℕ) : Type 0 where
  pub within : bit + n ≤ span.end
  pub before : bit < span.first → bit + n ≤ span.first
  pub block : span.first ≤ bit → n ≤ 120 - (bit - start)

-- ---- how far a picture came

-- so many blocks were written before this bit, and another one begins with bit start; past the end there are all
pub record IsAt (first end bit start block : ℕ) : Type 0 where
  pub under_way : bit < end → start ≡ start_of first block
  pub reached : bit < end → start ≤ max first bit
  pub short : bit < end → bit < start + 120
  pub over : end ≤ bit → block ≡ blocks first end

-- what was drawn of the bits before this one
pub record IsDrawn (span : Span) (bit : ℕ) (page : Page) (rows : List NodeRows) (told : List (List BitEvent)) : Type 0
  where
    pub block : ℕ
    pub at : IsAt span.first span.end bit page.start block
    pub text_is : string_bytes page.text ≡ gathered (block_in told span.first span.end) (range_with_len 0 block)
    pub bus_is : string_bytes page.bus ≡ gathered (bus_sign told) (range_with_len page.start (bit - page.start))
    pub rows_are : EachRelated (AreRows (bus_in told) page.start bit) told rows

-- a bit more was drawn, where the node traces have it at hand
abbrev pub TakesBit : Span → ℕ → List NodeTrace → List NodeRows → List NodeRows → Page → Page → Type 0
TakesBit span bit node_traces olds news old new =
    (told : List (List BitEvent)) → AreAtHand bit node_traces told → IsDrawn span bit old olds told →
    IsDrawn span (bit + 1) new news told

-- so many more, in which all nodes rested as the node traces have it at hand
abbrev pub TakesRest : Span → ℕ → ℕ → List NodeTrace → List NodeRows → List NodeRows → Page → Page → Type 0
TakesRest span bit n node_traces olds news old new =
    (told : List (List BitEvent)) → AreResting bit n node_traces told → IsDrawn span bit old olds told →
    IsDrawn span (bit + n) new news told

-- ---- the nodes of a log

-- a plan without nodes: the node traces here have no steps to tell
abbrev pub no_plan : PlanValue
no_plan = record { version = 1; bits = 0; nodes = []; turns = []; strikes = [] }

-- before the first bit
pub record AreFirst (nodes : List NodeValue) (node_traces : List NodeTrace) : Type 0 where
  pub stories : List NodeStory
  pub have : HaveTold 0 no_plan 0 nodes node_traces stories
