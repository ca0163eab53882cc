-- What a driver has been shown (this project's own rule).
use Rattle.std.specs.Prelude.{ℕ, Bool, true, false, nat_le, if◌then◌else◌, List, [], length, drop}
use Rattle.sja_journal.specs.declared.down.Down.{Down}
use Rattle.sja_journal.specs.declared.entry.Entry.{Entry}
use Rattle.sja_journal.specs.Lists.{messages}
use Rattle.sja_link.specs.Looking.{off_among}
use Rattle.sja_journal.specs.Parts.{of_part}
use Rattle.sja_journal.specs.Carried.{put_in}
use Rattle.sja_driver.specs.TypedActs.{TypedAct, opened_by, acts_of, released_lengths}
use Rattle.sja_driver.specs.Carried.{Sees}

-- what was put in an activation by the time when so many bits had run
abbrev pub put_by : ℕ → List Entry → ℕ → List Down
put_by k = of_part (λ q. if nat_le q.before.bits k then put_in q.entry else [])

-- whether bus-off was among it
abbrev pub off_by : ℕ → List Entry → ℕ → Bool
off_by k j a = off_among false (put_by k j a)

-- the messages that a driver has been shown and has not released after these acts, when so many bits had run
abbrev pub window_of : List Entry → List TypedAct → ℕ → List (List ℕ)
window_of j before k =
    let a = opened_by before in drop (length (released_lengths (acts_of before a))) (messages (put_by k j a))

-- what an active driver is answered: by all that was put in its activation before its step
abbrev pub SeesIf : Bool → List Entry → List TypedAct → TypedAct → Type 0
SeesIf true j before d = Sees d.step (off_by d.bits j (opened_by before)) (window_of j before d.bits) d.answer
SeesIf false j before d = Unit {0}
