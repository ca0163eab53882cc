-- Each abort was commanded (this project's own rule).
use Rattle.std.specs.Prelude.{◌≡◌, ◌≤◌, ℕ, true, List, ◌∷◌, ◌++◌}
use Rattle.sja_journal.specs.declared.entry.Entry.{Entry}
use Rattle.sja_journal.specs.declared.entry.Entry.TheVariants.{Bit, Up as Item, Abort, Stored, Overrun, Off}
use Rattle.lemmas.specs.Gathering.{total}
use Rattle.sja_journal.specs.Places.{place_of}
use Rattle.sja_journal.specs.Carried.{taken_in}
use Rattle.sja_link.specs.World.{is_send}
use Rattle.sja_driver.specs.TypedActs.{TypedAct}
use Rattle.sja_driver.specs.Carried.{asks_abort}

-- the requests that were given in these acts, and those that were taken with these entries
abbrev pub sends_given : List TypedAct → ℕ
sends_given = total (λ (d : TypedAct). total is_send d.gave)

abbrev pub sends_taken : List Entry → ℕ
sends_taken = total (λ e. total is_send (taken_in e))

-- after these entries an abort was commanded: by an accepted command with AT alone, after no more bits, and later than
-- the last request that was taken
pub record IsCommanded (acts : List TypedAct) (before : List Entry) : Type 0 where
  pub early : List TypedAct
  pub command : TypedAct
  pub late : List TypedAct
  pub whole : acts ≡ early ++ command ∷ late
  pub is_abort : asks_abort command.step command.answer ≡ true
  pub by_then : command.bits ≤ (place_of before).bits
  pub later : sends_taken before ≤ sends_given early

-- each abort of a journal was
abbrev pub AbortIsDue : List TypedAct → List Entry → Entry → Type 0
AbortIsDue acts before Abort = IsCommanded acts before
AbortIsDue acts before (Bit driven seen) = Unit {0}
AbortIsDue acts before (Item u) = Unit {0}
AbortIsDue acts before (Stored m) = Unit {0}
AbortIsDue acts before (Overrun m) = Unit {0}
AbortIsDue acts before Off = Unit {0}
