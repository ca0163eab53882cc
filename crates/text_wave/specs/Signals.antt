-- What the signals of a node show after some entries of its journal (this project's own rule).
use Rattle.std.specs.Prelude.{ℕ, zero, suc, Bool, true, false, not, List, [], ◌∷◌, length}
use Rattle.can_levels.specs.declared.level.Level.TheVariants.{Recessive}
use Rattle.can_levels.specs.Fields.{is_recessive}
use Rattle.can_node_rules.specs.Bits.{Bit as NodeBit, recessive_bit}
use Rattle.sja_journal.specs.declared.up.Up.TheVariants.{Start, Credit, Send, Stop}
use Rattle.sja_journal.specs.declared.entry.Entry.{Entry}
use Rattle.sja_journal.specs.declared.entry.Entry.TheVariants.{Bit, Up as Item, Abort, Stored, Overrun, Off}
use Rattle.lemmas.specs.Gathering.{gathered}
use Rattle.sja_journal.specs.Carried.{bits_of, stored_of, overrun_of}

-- the last element, or this one where there is none
abbrev pub last_or : {A : Type 0} → A → List A → A
last_or other [] = other
last_or other (x ∷ xs) = last_or x xs

-- ---- levels

-- the last bit; before the first one the node drives and sees recessive
abbrev pub last_bit : List Entry → NodeBit
last_bit es = last_or (recessive_bit Recessive) (bits_of es)

-- the level that the node drove in it, and the one that it saw; recessive is true
abbrev pub shows_driven : List Entry → Bool
shows_driven es = is_recessive (last_bit es).driven

abbrev pub shows_seen : List Entry → Bool
shows_seen es = is_recessive (last_bit es).seen

-- ---- activations

-- a start begins an activation; a stop and bus-off end it
abbrev pub activity_in : Entry → List Bool
activity_in (Item (Start config)) = true ∷ []
activity_in (Item (Credit n)) = []
activity_in (Item (Send request)) = []
activity_in (Item Stop) = false ∷ []
activity_in (Bit driven seen) = []
activity_in Abort = []
activity_in (Stored m) = []
activity_in (Overrun m) = []
activity_in Off = false ∷ []

-- whether the last of these is a start
abbrev pub shows_active : List Entry → Bool
shows_active es = last_or false (gathered activity_in es)

-- bus-off lasts up to the next start
abbrev pub absence_in : Entry → List Bool
absence_in (Item (Start config)) = false ∷ []
absence_in (Item (Credit n)) = []
absence_in (Item (Send request)) = []
absence_in (Item Stop) = []
absence_in (Bit driven seen) = []
absence_in Abort = []
absence_in (Stored m) = []
absence_in (Overrun m) = []
absence_in Off = true ∷ []

-- whether the last of these is bus-off
abbrev pub shows_off : List Entry → Bool
shows_off es = last_or false (gathered absence_in es)

-- ---- verdicts

-- false for 0, and the other one for each number after the next
abbrev pub is_odd : ℕ → Bool
is_odd zero = false
is_odd (suc n) = not (is_odd n)

-- whether the messages that were stored, and those that were overrun, are odd in number: it changes with each of them
abbrev pub shows_stored : List Entry → Bool
shows_stored es = is_odd (length (stored_of es))

abbrev pub shows_overrun : List Entry → Bool
shows_overrun es = is_odd (length (overrun_of es))
