-- The places of a frame as numbers of a program in C, as c/sja.h has them (this project's own rule).
use Rattle.std.specs.Prelude.{◌==◌, ◌+◌, ◌*◌, ◌/◌, ◌%◌, ◌&&◌, ℕ, nat_le, if◌then◌else◌, Option, Some, None}
use Rattle.sja_plan.specs.declared.place.Place.{Place}
use Rattle.sja_plan.specs.declared.place.Place.TheVariants.{Sof, Id, Srr, Rtr, Ide, R1, R0, Dlc, Data, Crc}
use Rattle.sja_plan.specs.declared.place.Place.TheVariants.{CrcDelimiter, Ack, AckDelimiter, Eof, Intermission, Stuff}

-- the number of a place: 256 times the number of its name, and its own one. A data bit has 10 times its byte there, and
-- its bit. No own number comes to 256, no byte to 16, no bit of one to 8
abbrev pub number_of : Place → ℕ
number_of Sof = 256
number_of (Id bit) = 512 + bit % 256
number_of Srr = 768
number_of Rtr = 1024
number_of Ide = 1280
number_of R1 = 1536
number_of R0 = 1792
number_of (Dlc bit) = 2048 + bit % 256
number_of (Data byte bit) = 2304 + 10 * (byte % 16) + bit % 8
number_of (Crc bit) = 2560 + bit % 256
number_of CrcDelimiter = 2816
number_of Ack = 3072
number_of AckDelimiter = 3328
number_of (Eof bit) = 3584 + bit % 256
number_of (Intermission bit) = 3840 + bit % 256
number_of (Stuff number) = 4096 + number % 256

-- 0 where a node is at none
abbrev pub number_if : Option Place → ℕ
number_if None = 0
number_if (Some place) = number_of place

-- a place whose own number is within these
abbrev pub between : ℕ → ℕ → ℕ → Place → Option Place
between least most index place = if nat_le least index && nat_le index most then Some place else None

abbrev pub data_of : ℕ → ℕ → Option Place
data_of byte bit = if nat_le 8 bit then None else between 1 8 byte (Data byte bit)

-- the place of a number
abbrev pub place_in : ℕ → ℕ → Option Place
place_in name index =
    if name == 1 then between 0 0 index Sof else if name == 2 then between 0 28 index (Id index)
    else if name == 3 then between 0 0 index Srr else if name == 4 then between 0 0 index Rtr
    else if name == 5 then between 0 0 index Ide else if name == 6 then between 0 0 index R1
    else if name == 7 then between 0 0 index R0 else if name == 8 then between 0 3 index (Dlc index)
    else if name == 9 then data_of (index / 10) (index % 10) else if name == 10 then between 0 14 index (Crc index)
    else if name == 11 then between 0 0 index CrcDelimiter else if name == 12 then between 0 0 index Ack
    else if name == 13 then between 0 0 index AckDelimiter else if name == 14 then between 1 7 index (Eof index)
    else if name == 15 then between 1 3 index (Intermission index)
    else if name == 16 then between 1 29 index (Stuff index) else None

abbrev pub place_of : ℕ → Option Place
place_of number = place_in (number / 256) (number % 256)
