-- When items are given and taken (this project's own rule).
use Rattle.std.specs.Prelude.{ℕ, List, map}
use Rattle.sja_journal.specs.declared.up.Up.{Up}
use Rattle.sja_journal.specs.declared.entry.Entry.{Entry}
use Rattle.lemmas.specs.Gathering.{gathered}
use Rattle.sja_journal.specs.Parts.{of_part}
use Rattle.sja_journal.specs.Carried.{taken_in}
use Rattle.sja_driver.specs.TypedActs.{TypedAct, acts_of}

-- an item, with the number of bits before it
pub record Timed : Type 0 where
  pub bits : ℕ
  pub item : Up

abbrev pub timed : ℕ → Up → Timed
timed n u = record { bits = n; item = u }

-- the items taken in an activation, each with the number of bits before its entry
abbrev pub taken_when : List Entry → ℕ → List Timed
taken_when = of_part (λ q. map (timed q.before.bits) (taken_in q.entry))

-- the items given in an activation, each with the number of bits before its step
abbrev pub given_when : List TypedAct → ℕ → List Timed
given_when acts a = gathered (λ (d : TypedAct). map (timed d.bits) d.gave) (acts_of acts a)
