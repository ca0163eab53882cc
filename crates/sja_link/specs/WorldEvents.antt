-- The events of one link, as a table: where each is allowed, and what it does (this project's own rule).
use Rattle.std.specs.Prelude.{◌≡◌, ◌≢◌, ◌↔◌, ◌≤◌, ◌<◌, Bool, true, false, if◌then◌else◌}
use Rattle.std.specs.Prelude.{Result, IfOk, OnErr, List, [], ◌∷◌, ◌++◌, ℕ, length, take, drop}
use Rattle.can_frame.specs.declared.out_of_memory.OutOfMemory.{OutOfMemory}
use Rattle.can_frame.specs.Message.{IsMessage}
use Rattle.sja_journal.specs.declared.down.Down.TheVariants.{Message, Off as OffDown}
use Rattle.sja_journal.specs.declared.up.Up.{Up}
use Rattle.sja_journal.specs.declared.up.Up.TheVariants.{Start as StartUp, Credit, Send as SendUp, Stop as StopUp}
use Rattle.sja_link.specs.declared.event.Event.{Event}
use Rattle.sja_link.specs.declared.event.Event.TheVariants.{Start, Put, Off, Get, Release, Send, SendDone, Stop, Take}
use Rattle.lemmas.specs.Gathering.{total}
use Rattle.sja_journal.specs.Lists.{with_put, with_given}
use Rattle.sja_link.specs.World.{WorldValue, new_world, is_off, is_start, is_send, is_stop, free, unreleased, on_way}

-- the bus may put: the start was taken, no stop was, and bus-off wasn't put
pub record MayPut (w : WorldValue) : Type 0 where
  pub started : total is_start w.lists.taken ≢ 0
  pub running : total is_stop w.lists.taken ≡ 0
  pub on : total is_off w.lists.put ≡ 0

-- the driver has started and not stopped
pub record IsOpen (w : WorldValue) : Type 0 where
  pub started : total is_start w.lists.given ≢ 0
  pub running : total is_stop w.lists.given ≡ 0

-- a message was got and not released, bus-off wasn't got, and the driver hasn't stopped
pub record MayRelease (w : WorldValue) : Type 0 where
  pub some : unreleased w ≢ []
  pub on : total is_off w.lists.got ≡ 0
  pub running : total is_stop w.lists.given ≡ 0

-- where an event is allowed
abbrev pub Allowed : WorldValue → Event → Type 0
Allowed w (Start config) = w.lists.given ≡ []
Allowed w (Put m) = MayPut w × (length m ≤ free w)
Allowed w Off = MayPut w
Allowed w Get = (length w.lists.got < length w.lists.put) × (total is_stop w.lists.given ≡ 0)
Allowed w Release = MayRelease w
Allowed w (Send request) = IsOpen w × (w.may_send ≡ true)
Allowed w SendDone = (w.may_send ≡ false) × (total is_send (on_way w) ≡ 0)
Allowed w Stop = IsOpen w
Allowed w Take = length w.lists.taken < length w.lists.given

-- the credit of the first of these messages
abbrev pub first_credit : List (List ℕ) → List Up
first_credit [] = []
first_credit (m ∷ ms) = Credit (length m) ∷ []

-- what an event does where it is allowed
abbrev pub done : WorldValue → Event → WorldValue
done w (Start config) = record w { lists = with_given w.lists (StartUp config) }
done w (Put m) = record w { lists = with_put w.lists (Message m) }
done w Off = record w { lists = with_put w.lists OffDown }
done w Get =
    record w { lists = record w.lists { got = w.lists.got ++ take 1 (drop (length w.lists.got) w.lists.put) } }
done w Release = record w { lists = record w.lists { given = w.lists.given ++ first_credit (unreleased w) } }
done w (Send request) = record { lists = with_given w.lists (SendUp request); may_send = false }
done w SendDone = record w { may_send = true }
done w Stop = record w { lists = with_given w.lists StopUp }
done w Take =
    record w { lists = record w.lists { taken = w.lists.taken ++ take 1 (drop (length w.lists.taken) w.lists.given) } }

-- a step answers whether the event is allowed, and does it exactly there; where memory is refused nothing changes
pub record Steps (old new : WorldValue) (e : Event) (answer : Result Bool OutOfMemory) : Type 0 where
  pub allowed : IfOk answer (λ b. (b ≡ true) ↔ Allowed old e)
  pub does : IfOk answer (λ b. new ≡ (if b then done old e else old))
  pub refused : OnErr answer (new ≡ old)

-- a message that is put is one
abbrev pub IsEvent : Event → Type 0
IsEvent (Put m) = IsMessage m
IsEvent (Start config) = Unit {0}
IsEvent Off = Unit {0}
IsEvent Get = Unit {0}
IsEvent Release = Unit {0}
IsEvent (Send request) = Unit {0}
IsEvent SendDone = Unit {0}
IsEvent Stop = Unit {0}
IsEvent Take = Unit {0}

-- these events, each allowed where it stands, lead to this world
pub data Reached : List Event → WorldValue → Type 0 where
  begun : Reached [] new_world
  next : {events : List Event} {w : WorldValue} (e : Event) → Reached events w → IsEvent e → Allowed w e →
      Reached (events ++ e ∷ []) (done w e)
