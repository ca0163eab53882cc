-- What the entries of a journal come to, those between its bits too.
use Rattle.std.proofs.Common.{◌≡◌, List, [], ◌∷◌, refl, ap, arith}
use Rattle.sja_journal.specs.declared.entry.Entry.{Entry}
use Rattle.sja_journal.specs.declared.entry.Entry.TheVariants.{Bit, Up as Item, Abort, Stored, Overrun, Off}
use Rattle.sja_journal.specs.Carried.{overrun_of}
use Rattle.sja_journal.specs.Between.{between_bits}
use Rattle.sja_sweep.specs.Changes.{times_off}

-- the messages that were overrun, and how often it went bus-off, stand between the bits
pub overrun_between : (j : List Entry) → overrun_of (between_bits j) ≡ overrun_of j
overrun_between [] = refl
overrun_between (Bit driven seen ∷ j) = overrun_between j
overrun_between (Item u ∷ j) = overrun_between j
overrun_between (Abort ∷ j) = overrun_between j
overrun_between (Stored m ∷ j) = overrun_between j
overrun_between (Overrun m ∷ j) = ap (λ l. m ∷ l) (overrun_between j)
overrun_between (Off ∷ j) = overrun_between j

pub off_between : (j : List Entry) → times_off (between_bits j) ≡ times_off j
off_between [] = refl
off_between (Bit driven seen ∷ j) = let so_far = off_between j in omega (arith, so_far)
off_between (Item u ∷ j) = let so_far = off_between j in omega (arith, so_far)
off_between (Abort ∷ j) = let so_far = off_between j in omega (arith, so_far)
off_between (Stored m ∷ j) = let so_far = off_between j in omega (arith, so_far)
off_between (Overrun m ∷ j) = let so_far = off_between j in omega (arith, so_far)
off_between (Off ∷ j) = let so_far = off_between j in omega (arith, so_far)
