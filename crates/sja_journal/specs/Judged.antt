-- The messages that were judged in an activation, each with its mark (this project's own rule).
use Rattle.std.specs.Prelude.{ℕ, Bool, true, false, if◌then◌else◌, List, [], ◌∷◌}
use Rattle.sja_journal.specs.declared.entry.Entry.{Entry}
use Rattle.sja_journal.specs.declared.entry.Entry.TheVariants.{Bit, Up as Item, Abort, Stored, Overrun, Off}
use Rattle.lemmas.specs.Gathering.{gathered}
use Rattle.sja_journal.specs.Places.{Placed}
use Rattle.sja_journal.specs.Parts.{of_part}

-- a message that was judged: the number of bits before its verdict, its bytes, and whether it was marked overrun
pub record Judged : Type 0 where
  pub bits : ℕ
  pub bytes : List ℕ
  pub overrun : Bool

-- the verdict of an entry that stands after so many bits
abbrev pub judged_after : ℕ → Entry → List Judged
judged_after n (Stored m) = (record { bits = n; bytes = m; overrun = false }) ∷ []
judged_after n (Overrun m) = (record { bits = n; bytes = m; overrun = true }) ∷ []
judged_after n (Bit driven seen) = []
judged_after n (Item u) = []
judged_after n Abort = []
judged_after n Off = []

abbrev pub judged_at : Placed → List Judged
judged_at q = judged_after q.before.bits q.entry

-- the messages judged in an activation, in order
abbrev pub judged_in : List Entry → ℕ → List Judged
judged_in = of_part judged_at

-- the messages of those that weren't marked overrun
abbrev pub kept_in : Judged → List (List ℕ)
kept_in v = if v.overrun then [] else v.bytes ∷ []

abbrev pub kept : List Judged → List (List ℕ)
kept = gathered kept_in
