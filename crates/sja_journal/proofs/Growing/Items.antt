-- Items among the entries of a journal, and none.
use Rattle.std.proofs.Common.{◌≡◌, List, [], ◌∷◌, refl, sym, append-nil}
use Rattle.sja_journal.specs.declared.up.Up.{Up}
use Rattle.sja_journal.specs.declared.entry.Entry.{Entry}
use Rattle.sja_journal.specs.Carried.{bits_of}
use Rattle.sja_journal.specs.BitEntries.{MayHaveItems, entries_of_items}

-- items are no bits
pub items_bits : (us : List Up) → bits_of (entries_of_items us) ≡ []
items_bits [] = refl
items_bits (u ∷ us) = items_bits us

-- no item is taken where there is none
pub items_none : (j : List Entry) → MayHaveItems j j
items_none j = record { items = []; whole = sym (append-nil j); read = tt; in_order = tt }
