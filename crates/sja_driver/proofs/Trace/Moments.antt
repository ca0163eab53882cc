-- A journal as it is now, seen later.
use Rattle.std.proofs.Common.{◌≡◌, ◌≤◌, ◌∙◌, ℕ, zero, suc, List, [], ◌∷◌, ◌++◌, length, refl, ap, arith}
use Rattle.sja_journal.specs.declared.entry.Entry.{Entry}
use Rattle.sja_journal.specs.declared.entry.Entry.TheVariants.{Bit, Up as Item, Abort, Stored, Overrun, Off}
use Rattle.sja_journal.specs.Carried.{bits_of, taken_of}
use Rattle.sja_driver.specs.Moments.{at_moment}

-- each abort is followed by a bit
abbrev pub HasBitsAfterAborts : List Entry → Type 0
HasBitsAfterAborts [] = Unit {0}
HasBitsAfterAborts (Abort ∷ j) = (1 ≤ length (bits_of j)) × HasBitsAfterAborts j
HasBitsAfterAborts (Bit driven seen ∷ j) = HasBitsAfterAborts j
HasBitsAfterAborts (Item item ∷ j) = HasBitsAfterAborts j
HasBitsAfterAborts (Stored m ∷ j) = HasBitsAfterAborts j
HasBitsAfterAborts (Overrun m ∷ j) = HasBitsAfterAborts j
HasBitsAfterAborts (Off ∷ j) = HasBitsAfterAborts j

abort_stays : (n u : ℕ) (j : List Entry) → 1 ≤ n → at_moment n u (Abort ∷ j) ≡ Abort ∷ at_moment n u j
abort_stays zero u j h = absurd (omega arith)
abort_stays (suc n) u j h = refl

-- the journal at the time of its own bits and items is the journal, whatever comes later
pub at_moment-now : (j rest : List Entry) → HasBitsAfterAborts j →
    at_moment (length (bits_of j)) (length (taken_of j)) (j ++ rest) ≡ j ++ at_moment 0 0 rest
at_moment-now [] rest h = refl
at_moment-now (Bit driven seen ∷ j) rest h = ap (λ l. Bit driven seen ∷ l) (at_moment-now j rest h)
at_moment-now (Item item ∷ j) rest h = ap (λ l. Item item ∷ l) (at_moment-now j rest h)
at_moment-now (Abort ∷ j) rest h = abort_stays (length (bits_of j)) (length (taken_of j)) (j ++ rest) h.0
    ∙ ap (λ l. Abort ∷ l) (at_moment-now j rest h.1)
at_moment-now (Stored m ∷ j) rest h = stays (length (bits_of j)) (length (taken_of j))
    ∙ ap (λ l. Stored m ∷ l) (at_moment-now j rest h)
  where
    stays : (n u : ℕ) → at_moment n u (Stored m ∷ (j ++ rest)) ≡ Stored m ∷ at_moment n u (j ++ rest)
    stays zero zero = refl
    stays zero (suc u) = refl
    stays (suc n) zero = refl
    stays (suc n) (suc u) = refl
at_moment-now (Overrun m ∷ j) rest h = stays (length (bits_of j)) (length (taken_of j))
    ∙ ap (λ l. Overrun m ∷ l) (at_moment-now j rest h)
  where
    stays : (n u : ℕ) → at_moment n u (Overrun m ∷ (j ++ rest)) ≡ Overrun m ∷ at_moment n u (j ++ rest)
    stays zero zero = refl
    stays zero (suc u) = refl
    stays (suc n) zero = refl
    stays (suc n) (suc u) = refl
at_moment-now (Off ∷ j) rest h = stays (length (bits_of j)) (length (taken_of j))
    ∙ ap (λ l. Off ∷ l) (at_moment-now j rest h)
  where
    stays : (n u : ℕ) → at_moment n u (Off ∷ (j ++ rest)) ≡ Off ∷ at_moment n u (j ++ rest)
    stays zero zero = refl
    stays zero (suc u) = refl
    stays (suc n) zero = refl
    stays (suc n) (suc u) = refl
