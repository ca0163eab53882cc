-- The place of a node's next bit, by the names of plans, and bits that run up to one (this project's own rule; names:
-- SJA1000 data sheet, 6.4.8 and 6.4.9).
use Rattle.std.specs.Prelude.{◌≡◌, ◌≢◌, ◌≤◌, ◌⊎◌, ◌+◌, ◌-◌, ◌/◌, ◌%◌, ℕ, true, false, Bool, Option, Some, None, List}
use Rattle.std.specs.Prelude.{option_map}
use Rattle.can_levels.specs.declared.segment.Segment.{Segment}
use Rattle.can_levels.specs.declared.segment.Segment.TheVariants.{StartOfFrame, Id28To21, Id20To18, RtrStandard, Ide}
use Rattle.can_levels.specs.declared.segment.Segment.TheVariants.{Id17To13, Id12To5, Id4To0, RtrExtended, Reserved1}
use Rattle.can_levels.specs.declared.segment.Segment.TheVariants.{Reserved0, DataLengthCode, Data, CrcSequence}
use Rattle.can_levels.specs.declared.segment.Segment.TheVariants.{CrcDelimiter as CrcDelimiterSegment, AckSlot}
use Rattle.can_levels.specs.declared.segment.Segment.TheVariants.{AckDelimiter, EndOfFrame}
use Rattle.can_levels.specs.declared.segment.Segment.TheVariants.{ActiveErrorFlag, Delimiter, OverloadFlag}
use Rattle.can_levels.specs.declared.frame_place.FramePlace.{FramePlace}
use Rattle.can_levels.specs.declared.frame_place.FramePlace.TheVariants.{Plain, StuffBit}
use Rattle.can_node_rules.specs.declared.node_place.NodePlace.{NodePlace}
use Rattle.can_node_rules.specs.declared.node_place.NodePlace.TheVariants.{Start, Srr as InSrr, InFrame}
use Rattle.can_node_rules.specs.declared.node_place.NodePlace.TheVariants.{Intermission as InPause}
use Rattle.sja_journal.specs.declared.entry.Entry.{Entry}
use Rattle.sja_journal.specs.Records.{record_of}
use Rattle.sja_plan.specs.declared.place.Place.{Place}
use Rattle.sja_plan.specs.declared.place.Place.TheVariants.{Sof, Id, Srr, Rtr, R1, R0, Dlc, Crc, CrcDelimiter, Ack}
use Rattle.sja_plan.specs.declared.place.Place.TheVariants.{Ide as IdeBit, Data as DataBit, Eof, Intermission, Stuff}
use Rattle.sja_plan.specs.declared.place.Place.TheVariants.{AckDelimiter as AckEnd}
use Rattle.sja_bus.specs.BusPlaces.{HasPlace}
use Rattle.sja_driver.specs.TypedActs.{TypedAct}
use Rattle.sja_serial.specs.Bits.{TakesBits}
use Rattle.sja_serial.specs.Serial.{Setup, SerialValue}
use Rattle.sja_bus_rules.specs.Wire.{journal_at}

-- ---- names

-- the bit of a segment behind so many others of it: the highest bit of a number comes first. A flag and a delimiter
-- aren't of a frame, and a node's place is in none
abbrev pub name_of : Segment → ℕ → Place
name_of StartOfFrame index = Sof
name_of Id28To21 index = Id (28 - index)
name_of Id20To18 index = Id (20 - index)
name_of RtrStandard index = Rtr
name_of Ide index = IdeBit
name_of Id17To13 index = Id (17 - index)
name_of Id12To5 index = Id (12 - index)
name_of Id4To0 index = Id (4 - index)
name_of RtrExtended index = Rtr
name_of Reserved1 index = R1
name_of Reserved0 index = R0
name_of DataLengthCode index = Dlc (3 - index)
name_of Data index = DataBit (index / 8 + 1) (7 - index % 8)
name_of CrcSequence index = Crc (14 - index)
name_of CrcDelimiterSegment index = CrcDelimiter
name_of AckSlot index = Ack
name_of AckDelimiter index = AckEnd
name_of EndOfFrame index = Eof (index + 1)
name_of ActiveErrorFlag index = Sof
name_of Delimiter index = Sof
name_of OverloadFlag index = Sof

abbrev pub named_in_frame : FramePlace → Place
named_in_frame (Plain segment index) = name_of segment index
named_in_frame (StuffBit number) = Stuff number

abbrev pub named : NodePlace → Place
named Start = Sof
named InSrr = Srr
named (InFrame place) = named_in_frame place
named (InPause bit) = Intermission bit

-- ---- a node

-- after this journal the node's next bit is at this place, or at none: by the cut of its record
pub record IsPlace (j : List Entry) (shown : Option Place) : Type 0 where
  pub place : Option NodePlace
  pub has : HasPlace (record_of j) place
  pub is : shown ≡ option_map named place

-- the next bit of a node is at this place, or it isn't
abbrev pub IsThere : ℕ → Place → SerialValue → Type 0
IsThere node place r = IsPlace (journal_at r.bus.journals node) (Some place)

pub record IsElsewhere (node : ℕ) (place : Place) (r : SerialValue) : Type 0 where
  pub shown : Option Place
  pub is : IsPlace (journal_at r.bus.journals node) shown
  pub other : shown ≢ Some place

-- ---- bits up to a place

-- so many bits were run, at most as many as were asked for, before each of which the node's next bit wasn't at the
-- place. Then it is; or it isn't, and all were run that were asked for, or are left
pub record TakesTo (setup : Setup) (acts : List (List TypedAct)) (node : ℕ) (place : Place) (limit run : ℕ)
    (there : Bool)
    (was now : SerialValue) : Type 0 where
  pub bits : TakesBits setup acts (IsElsewhere node place) was run now
  pub most : run ≤ limit
  pub whole : there ≡ true → IsThere node place now
  pub spent : there ≡ false → IsElsewhere node place now × ((run ≡ limit) ⊎ (now.bits ≡ setup.bits))
