-- The two ends of a link after their last acts (this project's own rule).
use Rattle.std.specs.Prelude.{◌≡◌, IfSome, IsSome}
use Rattle.rtrb.specs.Ring.{received, all_sent, Finishes, IsFinishedOf}
use Rattle.sja_journal.specs.Lists.{Lists}
use Rattle.sja_rings.specs.declared.ring_bus.RingBus.{RingBus}
use Rattle.sja_rings.specs.declared.ring_driver.RingDriver.{RingDriver}
use Rattle.sja_rings.specs.declared.ended_bus.EndedBus.{EndedBus}
use Rattle.sja_rings.specs.declared.ended_driver.EndedDriver.{EndedDriver}

-- the ring that an end sent into gave its closing note
abbrev pub HasBusNote : EndedBus → Type 0
HasBusNote e = IsSome e.note

abbrev pub HasDriverNote : EndedDriver → Type 0
HasDriverNote e = IsSome e.note

-- the last act of an end: the note is that of the ring that it sent into, and its end of the other ring is what it was
abbrev pub EndsBus : RingBus → EndedBus → Type 0
EndsBus b e = IfSome e.note (Finishes b.down) × (e.up ≡ b.up)

abbrev pub EndsDriver : RingDriver → EndedDriver → Type 0
EndsDriver d e = (e.down ≡ d.down) × IfSome e.note (Finishes d.up)

-- the lists that an ended end stands for: its note says what was sent
abbrev pub EndedBusLists : EndedBus → Lists → Type 0
EndedBusLists e l = IfSome e.note (λ f. all_sent f ≡ l.put) × (received e.up ≡ l.taken)

abbrev pub EndedDriverLists : EndedDriver → Lists → Type 0
EndedDriverLists e l = (received e.down ≡ l.got) × IfSome e.note (λ f. all_sent f ≡ l.given)

-- both ended ends come from one pair: each note is of the ring that the other end takes out of
abbrev pub OneEnded : EndedBus → EndedDriver → Type 0
OneEnded b d = IfSome b.note (λ f. IsFinishedOf f d.down) × IfSome d.note (λ f. IsFinishedOf f b.up)
