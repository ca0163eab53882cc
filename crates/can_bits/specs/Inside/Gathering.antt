-- What is kept of a body and its CRC sequence while their levels come.
use Rattle.std.specs.Prelude.{◌≡◌, ◌+◌, ◌*◌, ◌<◌, ◌^◌, ℕ, Bool, true, false, nat_lt, if◌then◌else◌, List, length}
use Rattle.can_levels.specs.declared.level.Level.{Level}
use Rattle.can_bits.specs.declared.body_word.BodyWord.{BodyWord}
use Rattle.can_levels.specs.Digits.{value}
use Rattle.can_levels.specs.Check.{IsMultiple, Crc}
use Rattle.can_levels.specs.Fields.{says_count}
use Rattle.can_levels.specs.DataBits.{data_place}
use Rattle.can_bits.specs.Packing.{Packs}

-- at how many levels more is known: at the end of a standard frame's DLC, where the format is known; at the end of an
-- extended frame's DLC; and at the end of the CRC sequence, once the DLC has come
abbrev pub mark_of : List Level → ℕ
mark_of w = if nat_lt (length w) 19 then 19 else if nat_lt (length w) (data_place w) then data_place w else says_count w

-- g is what the levels w say, without stuff bits. With the register after them they are a multiple of the generator
pub record Gathers (g : BodyWord) (w : List Level) : Type 0 where
  pub packs : Packs g.word g.place w
  pub mark : g.mark ≡ mark_of w
  pub fits : g.register < 2 ^ 15
  pub divides : IsMultiple (value w * 2 ^ 15 + g.register)

-- a bool that says whether the CRC sequence is right
abbrev pub SaysWhetherRight : Bool → List Level → List Level → Type 0
SaysWhetherRight true b c = Crc b c
SaysWhetherRight false b c = ¬ Crc b c
