-- The words for the fields of a frame, and for its end (this project's own rule).
use Rattle.std.specs.Prelude.{◌==◌, ◌&&◌, ◌+◌, ◌/◌, ℕ, Bool, if◌then◌else◌, List, [], ◌∷◌, ◌++◌, codes, decimal}
use Rattle.std.specs.List.{filter}
use Rattle.can_levels.specs.declared.segment.Segment.{Segment}
use Rattle.can_node_rules.specs.declared.cause.Cause.{Cause}
use Rattle.lemmas.specs.Gathering.{gathered}
use Rattle.text_trace.specs.Names.{cause_name, segment_name}
use Rattle.text_trace.specs.Places.{place_name}
use Rattle.text_frames.specs.declared.ending.Ending.{Ending}
use Rattle.text_frames.specs.declared.ending.Ending.TheVariants.{Whole, Lost, Broken, CutOff}
use Rattle.text_frames.specs.declared.field.Field.{Field}
use Rattle.text_frames.specs.declared.field.Field.TheVariants.{Bytes}
use Rattle.text_frames.specs.declared.frame_bit.FrameBit.{FrameBit}
use Rattle.text_frames.specs.declared.last_bit.LastBit.{LastBit}
use Rattle.text_frames.specs.Fields.{fields, are_one}
use Rattle.text_frames.specs.FieldNames.{field_name}

-- ---- a field: its first and its last bit, and its stuff bits

abbrev pub is_of : Field → FrameBit → Bool
is_of field b = are_one b.field field

abbrev pub last_number : FrameBit → List FrameBit → ℕ
last_number b [] = b.bit
last_number b (c ∷ bits) = last_number c bits

abbrev pub range_text : ℕ → ℕ → List ℕ
range_text first last = if first == last then decimal first else decimal first ++ (codes "-" ++ decimal last)

abbrev pub is_stuff : FrameBit → Bool
is_stuff b = b.stuff

abbrev pub number_behind : FrameBit → List ℕ
number_behind b = codes ", " ++ decimal b.bit

abbrev pub numbers_behind : List FrameBit → List ℕ
numbers_behind bits = gathered number_behind bits

abbrev pub stuff_text : List FrameBit → List ℕ
stuff_text [] = []
stuff_text (b ∷ bits) = codes " (stuff " ++ decimal b.bit ++ numbers_behind bits ++ codes ")"

-- a field that has no bit has no text
abbrev pub field_text : List ℕ → List FrameBit → List ℕ
field_text name [] = []
field_text name (b ∷ bits) =
    codes ", " ++ name ++ codes " " ++ range_text b.bit (last_number b bits) ++ stuff_text (filter is_stuff (b ∷ bits))

abbrev pub field_among : Bool → List FrameBit → Field → List ℕ
field_among ext bits field = field_text (field_name ext field) (filter (is_of field) bits)

-- ---- the data field byte by byte

-- how many data bits have come behind a bit, a stuff bit being none
abbrev pub behind : ℕ → FrameBit → ℕ
behind before b = if b.stuff then before else before + 1

-- of bits of the data field, before which so many data bits have come, those of the byte of this number, counted from
-- 0: before each of them as many have come as fill the bytes before it, and fewer than fill that byte too
abbrev pub byte_bits : ℕ → ℕ → List FrameBit → List FrameBit
byte_bits number before [] = []
byte_bits number before (b ∷ bits) =
    (if before / 8 == number then b ∷ [] else []) ++ byte_bits number (behind before b) bits

-- the bytes of a frame, with their names in the list
abbrev pub named_bytes : List (ℕ × List ℕ)
named_bytes =
    (0, codes "data 1") ∷ (1, codes "2") ∷ (2, codes "3") ∷ (3, codes "4") ∷ (4, codes "5") ∷ (5, codes "6")
    ∷ (6, codes "7") ∷ (7, codes "8") ∷ []

abbrev pub byte_among : List FrameBit → ℕ × List ℕ → List ℕ
byte_among own byte = field_text (byte.1) (byte_bits (byte.0) 0 own)

abbrev pub bytes_text : List FrameBit → List ℕ
bytes_text own = gathered (byte_among own) named_bytes

-- ---- all fields after SOF, the data field byte by byte where that is asked for

abbrev pub field_or_bytes : Bool → Bool → List FrameBit → Field → List ℕ
field_or_bytes each ext bits field =
    if each && are_one field Bytes then bytes_text (filter (is_of field) bits) else field_among ext bits field

abbrev pub fields_text : Bool → Bool → List FrameBit → List ℕ
fields_text each ext bits = gathered (field_or_bytes each ext bits) fields

-- ---- the end

abbrev pub loss_text : ℕ → ℕ → List ℕ
loss_text bit code = codes "; arbitration lost in bit " ++ decimal bit ++ codes ", " ++ place_name code

abbrev pub break_text : ℕ → Cause → Segment → List ℕ
break_text bit cause segment =
    codes "; broken off in bit " ++ (decimal bit ++ (codes ": " ++ (cause_name cause ++ (codes " in "
    ++ segment_name segment))))

abbrev pub cut_text : ℕ → List ℕ
cut_text bit = codes "; cut off after bit " ++ decimal bit

abbrev pub ending_text : ℕ → Ending → List ℕ
ending_text bit Whole = []
ending_text bit (Lost code) = loss_text bit code
ending_text bit (Broken cause segment) = break_text bit cause segment
ending_text bit CutOff = cut_text bit

abbrev pub last_text : LastBit → List ℕ
last_text l = ending_text l.bit l.ending
