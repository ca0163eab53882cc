-- How `sja live` writes a place of a frame: by the name that plans have for it (this project's own rule).
use Rattle.std.specs.Prelude.{◌++◌, codes, decimal}
use Rattle.sja_plan_reading.specs.Words.{Text}
use Rattle.sja_plan.specs.declared.place.Place.{Place}
use Rattle.sja_plan.specs.declared.place.Place.TheVariants.{Sof, Id, Srr, Rtr, Ide, R1, R0, Dlc, Data, Crc}
use Rattle.sja_plan.specs.declared.place.Place.TheVariants.{CrcDelimiter, Ack, AckDelimiter, Eof, Intermission, Stuff}

abbrev pub place_text : Place → Text
place_text Sof = codes "SOF"
place_text (Id bit) = codes "ID." ++ decimal bit
place_text Srr = codes "SRR"
place_text Rtr = codes "RTR"
place_text Ide = codes "IDE"
place_text R1 = codes "r1"
place_text R0 = codes "r0"
place_text (Dlc bit) = codes "DLC." ++ decimal bit
place_text (Data byte bit) = codes "data " ++ (decimal byte ++ (codes "." ++ decimal bit))
place_text (Crc bit) = codes "CRC." ++ decimal bit
place_text CrcDelimiter = codes "CRC delimiter"
place_text Ack = codes "ACK"
place_text AckDelimiter = codes "ACK delimiter"
place_text (Eof bit) = codes "EOF." ++ decimal bit
place_text (Intermission bit) = codes "intermission." ++ decimal bit
place_text (Stuff number) = codes "stuff." ++ decimal number
