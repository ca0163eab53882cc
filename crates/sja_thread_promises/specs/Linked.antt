-- The events of one link beside an activation's part of a journal (this project's own rule).
use Rattle.std.specs.Prelude.{◌≡◌, ◌<◌, ◌+◌, ℕ, List, [], ◌∷◌, length, slice_index_or}
use Rattle.sja_journal.specs.declared.entry.Entry.{Entry}
use Rattle.sja_journal.specs.declared.entry.Entry.TheVariants.{Bit, Up as Item, Abort, Stored, Overrun, Off as OffEntry}
use Rattle.sja_link.specs.declared.event.Event.{Event}
use Rattle.sja_link.specs.declared.event.Event.TheVariants.{Start, Put, Off, Get, Release, Send, SendDone, Stop, Take}
use Rattle.lemmas.specs.Gathering.{gathered}
use Rattle.sja_journal.specs.Lists.{Lists}
use Rattle.sja_journal.specs.Accounts.{account}
use Rattle.sja_journal.specs.Parts.{part}
use Rattle.sja_link.specs.World.{WorldValue}
use Rattle.sja_link.specs.WorldEvents.{Reached}
use Rattle.sja_log.specs.Log.{ActivationValue, NodeValue}
use Rattle.sja_promises.specs.Settling.{IsSettled}

-- what an event is of the bus
abbrev pub bus_event : Event → List Event
bus_event (Put m) = Put m ∷ []
bus_event Off = Off ∷ []
bus_event Take = Take ∷ []
bus_event (Start config) = []
bus_event Get = []
bus_event Release = []
bus_event (Send request) = []
bus_event SendDone = []
bus_event Stop = []

-- what the bus did on the link with an entry
abbrev pub event_in : Entry → List Event
event_in (Stored m) = Put m ∷ []
event_in OffEntry = Off ∷ []
event_in (Item u) = Take ∷ []
event_in (Bit driven seen) = []
event_in Abort = []
event_in (Overrun m) = []

-- some order of events, those of the bus as in this part, leads to these lists
pub record IsLinked (p : List Entry) (lists : Lists) : Type 0 where
  pub events : List Event
  pub world : WorldValue
  pub reached : Reached events world
  pub ends : world.lists ≡ lists
  pub order : gathered bus_event events ≡ gathered event_in p

-- of each activation of a node some order of events leads to the four lists of its link, however its log is settled
abbrev pub AreLinked : NodeValue → Type 0
AreLinked node = (a : ℕ) (d : ActivationValue) → a < length node.activations →
    (settled : IsSettled node.journal (a + 1) (slice_index_or node.activations a d)) →
    IsLinked (part node.journal (a + 1)) (account node.journal (a + 1) settled.driver)
