-- A journal gone over bit by bit.
use Rattle.std.proofs.Common.{◌≡◌, ℕ, zero, suc, List, [], ◌∷◌, ◌++◌, refl, sym, ap}
use Rattle.can_levels.specs.declared.level.Level.{Level}
use Rattle.sja_journal.specs.declared.entry.Entry.{Entry}
use Rattle.sja_journal.specs.declared.entry.Entry.TheVariants.{Bit, Up as Item, Abort, Stored, Overrun, Off}
use Rattle.text_wave.specs.Through.{through}
use Rattle.text_wave.specs.declared.cursor.Cursor.{Cursor}
use Rattle.text_wave.specs.declared.signals.Signals.{Signals}
use Rattle.text_wave.specs.Inside.Cursors.{past, stepped}

-- the entries up to the next bit are those up to this one, and those up to the first one that is left
pub through_next : (n : ℕ) (j : List Entry) → through (suc n) j ≡ through n j ++ through 1 (past n j)
through_next zero j = refl
through_next (suc n) [] = refl
through_next (suc n) (Bit driven seen ∷ j) = ap (λ es. Bit driven seen ∷ es) (through_next n j)
through_next (suc n) (Item u ∷ j) = ap (λ es. Item u ∷ es) (through_next (suc n) j)
through_next (suc n) (Abort ∷ j) = ap (λ es. Abort ∷ es) (through_next (suc n) j)
through_next (suc n) (Stored m ∷ j) = ap (λ es. Stored m ∷ es) (through_next (suc n) j)
through_next (suc n) (Overrun m ∷ j) = ap (λ es. Overrun m ∷ es) (through_next (suc n) j)
through_next (suc n) (Off ∷ j) = ap (λ es. Off ∷ es) (through_next (suc n) j)

-- what is left after the next bit is left after the first one that was left
pub past_next : (n : ℕ) (j : List Entry) → past (suc n) j ≡ past 1 (past n j)
past_next zero j = refl
past_next (suc n) [] = refl
past_next (suc n) (Bit driven seen ∷ j) = past_next n j
past_next (suc n) (Item u ∷ j) = past_next (suc n) j
past_next (suc n) (Abort ∷ j) = past_next (suc n) j
past_next (suc n) (Stored m ∷ j) = past_next (suc n) j
past_next (suc n) (Overrun m ∷ j) = past_next (suc n) j
past_next (suc n) (Off ∷ j) = past_next (suc n) j

-- ---- one entry after another

-- a bit is taken
pub bit_taken : (c : Cursor) (es : List Entry) (driven seen : Level) → c.entries ≡ Bit driven seen ∷ es →
    (let s : Signals = record c.shows { driven = driven; seen = seen } in
    let x : Cursor = record { entries = es; showed = c.showed; shows = s } in x)
    ≡ stepped c
bit_taken c es driven seen is = sym (ap (λ (l : List Entry). stepped (record c { entries = l })) is)
