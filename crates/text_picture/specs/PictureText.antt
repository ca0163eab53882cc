-- The picture of the bits of a run, row by row (this project's own rule).
use Rattle.std.specs.Prelude.{◌≡◌, ◌+◌, ◌-◌, ◌*◌, ◌/◌, ◌%◌, ℕ, zero, suc, min, Option, Some, None}
use Rattle.std.specs.Prelude.{List, [], ◌∷◌, ◌++◌, codes, decimal}
use Rattle.std.specs.List.{range_with_len}
use Rattle.can_levels.specs.declared.level.Level.{Level}
use Rattle.lemmas.specs.Gathering.{gathered}
use Rattle.lemmas.specs.Related.{EachRelated}
use Rattle.text_frames.specs.FrameStories.{HasTold}
use Rattle.sja_log.specs.Log.{RunValue}
use Rattle.sja_replay.specs.declared.bit_event.BitEvent.{BitEvent}
use Rattle.text_report.specs.ReportLines.{numbered}
use Rattle.text_picture.specs.Rows.{ruler_in, bus_in, bus_sign, driven_sign, letter_in}

-- ---- the rows of a block, which begins with a bit and has so many

-- a head of eight columns, what the row shows of each bit, and the end of the line
abbrev pub row : List ℕ → (ℕ → List ℕ) → ℕ → ℕ → List ℕ
row head shown bit many = head ++ (gathered shown (range_with_len bit many) ++ 10 ∷ [])

-- the columns of the ruler: up to the end of the ten in which the last bit is
abbrev pub end_of_ten : ℕ → ℕ
end_of_ten last = (last - last % 10) + 10

abbrev pub to_ten : ℕ → ℕ → ℕ
to_ten bit many = end_of_ten ((bit + many) - 1) - bit

-- a node has two rows: the level that it drives, and its letters
abbrev pub node_head : ℕ → List ℕ
node_head node = codes "node " ++ (decimal node ++ codes "  ")

abbrev pub node_rows : (ℕ → Level) → ℕ → ℕ → ℕ → List BitEvent → List ℕ
node_rows bus bit many node hs =
    row (node_head node) (driven_sign hs) bit many ++ row (codes "        ") (letter_in bus hs) bit many

abbrev pub block_text : List (List BitEvent) → ℕ → ℕ → List ℕ
block_text told bit many =
    row (codes "bit     ") ruler_in bit (to_ten bit many)
    ++ row (codes "bus     ") (bus_sign told) bit many
    ++ numbered (node_rows (bus_in told) bit many) 0 told

-- ---- the blocks of the bits from first on, before bit end: each has 120 bits, and the last one what is left

abbrev pub start_of : ℕ → ℕ → ℕ
start_of first block = first + 120 * block

abbrev pub length_of : ℕ → ℕ → ℕ → ℕ
length_of first end block = min 120 (end - start_of first block)

-- between two blocks stands an empty line
abbrev pub space_before : ℕ → List ℕ
space_before zero = []
space_before (suc block) = 10 ∷ []

abbrev pub block_in : List (List BitEvent) → ℕ → ℕ → ℕ → List ℕ
block_in told first end block =
    space_before block ++ block_text told (start_of first block) (length_of first end block)

abbrev pub blocks : ℕ → ℕ → ℕ
blocks first end = ((end - first) + 119) / 120

abbrev pub picture_text : List (List BitEvent) → ℕ → ℕ → List ℕ
picture_text told first end = gathered (block_in told first end) (range_with_len 0 (blocks first end))

-- ---- of a log

-- the bit behind the last one that is drawn: the run ends with its last bit, and without a last bit that one is meant
abbrev pub end_after : Option ℕ → ℕ → ℕ
end_after None bits = bits
end_after (Some last) bits = min (last + 1) bits

-- the text is the picture of these bits of a run
pub record IsPicture (log : RunValue) (first : ℕ) (last : Option ℕ) (text : List ℕ) : Type 0 where
  pub told : List (List BitEvent)
  pub have : EachRelated HasTold log.nodes told
  pub whole : text ≡ picture_text told first (end_after last log.bits)
