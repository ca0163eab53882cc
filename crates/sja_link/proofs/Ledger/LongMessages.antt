-- A message has at least three bytes, so each one that an event puts.
use Rattle.std.proofs.Common.{ℕ, ◌≤◌, Bool, true, false, List, ◌++◌, length, sym, subst, arith}
use Rattle.can_frame.specs.Message.{IsMessage, head_of}
use Rattle.sja_link.specs.declared.event.Event.{Event}
use Rattle.sja_link.specs.declared.event.Event.TheVariants.{Start, Put, Off, Get, Release, Send, SendDone, Stop, Take}
use Rattle.sja_link.specs.WorldEvents.{IsEvent}

-- a message has at least three bytes
pub head_long : (ext : Bool) (id : ℕ) (rtr : Bool) (dlc : ℕ) (rest : List ℕ) →
    3 ≤ length (head_of ext id rtr dlc ++ rest)
head_long false id rtr dlc rest = omega arith
head_long true id rtr dlc rest = omega arith

pub message_long : (m : List ℕ) → IsMessage m → 3 ≤ length m
message_long m h =
    let f = h.0 in subst (λ (l : List ℕ). 3 ≤ length l) (sym h.2) (head_long f.ext f.id f.rtr f.dlc f.bytes)

-- a message that is put has at least three bytes
abbrev pub IsLong : Event → Type 0
IsLong (Put m) = 3 ≤ length m
IsLong (Start config) = Unit {0}
IsLong Off = Unit {0}
IsLong Get = Unit {0}
IsLong Release = Unit {0}
IsLong (Send request) = Unit {0}
IsLong SendDone = Unit {0}
IsLong Stop = Unit {0}
IsLong Take = Unit {0}

pub event_long : (e : Event) → IsEvent e → IsLong e
event_long (Put m) item = message_long m item
event_long (Start config) item = tt
event_long Off item = tt
event_long Get item = tt
event_long Release item = tt
event_long (Send request) item = tt
event_long SendDone item = tt
event_long Stop item = tt
event_long Take item = tt
