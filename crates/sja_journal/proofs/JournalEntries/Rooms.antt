-- Room for an entry more.
use Rattle.std.proofs.Common.{◌≡◌, ℕ, suc, ◌+◌, ◌<◌, ◌≤◌, Bool, true, false, List, [], ◌∷◌, ◌++◌, length, refl, sym}
use Rattle.std.proofs.Common.{ap, ◌∙◌, subst, append-nil, arith}
use Rattle.std.proofs.lemmas.List.{length-append}
use Rattle.can_levels.specs.declared.level.Level.{Level}
use Rattle.lemmas.proofs.Gathered.{gathered_append}
use Rattle.sja_journal.specs.declared.entry.Entry.{Entry}
use Rattle.sja_journal.specs.declared.entry.Entry.TheVariants.{Bit, Up, Abort, Stored, Overrun, Off}
use Rattle.sja_journal.specs.Between.{between_bits, unless_bit}
use Rattle.sja_journal.specs.Carried.{bits_of}
use Rattle.sja_journal.specs.BitEntries.{abort_as}
use Rattle.sja_journal.specs.Written.{Room, Fits, IsFullFor}
use Rattle.sja_journal.specs.Inside.Codes.{IsOther}

-- ---- how many are no bits

pub between_both : (j k : List Entry) →
    length (between_bits (j ++ k)) ≡ length (between_bits j) + length (between_bits k)
between_both j k =
    let one = ap (λ (l : List Entry). length l) (gathered_append unless_bit j k) in
    one ∙ length-append (between_bits j) (between_bits k)

other_alone : (e : Entry) → IsOther e → length (between_bits (e ∷ [])) ≡ 1
other_alone (Bit driven seen) own = elim own [ ]
other_alone (Up u) own = refl
other_alone Abort own = refl
other_alone (Stored m) own = refl
other_alone (Overrun m) own = refl
other_alone Off own = refl

pub is_other : (e : Entry) → ((x y : Level) → e ≡ Bit x y → ⊥) → IsOther e
is_other (Bit driven seen) none = none driven seen refl
is_other (Up u) none = tt
is_other Abort none = tt
is_other (Stored m) none = tt
is_other (Overrun m) none = tt
is_other Off none = tt

few_alone : (e : Entry) → length (between_bits (e ∷ [])) ≤ 1
few_alone (Bit driven seen) = omega arith
few_alone (Up u) = omega arith
few_alone Abort = omega arith
few_alone (Stored m) = omega arith
few_alone (Overrun m) = omega arith
few_alone Off = omega arith

pub bit_more : (j : List Entry) (x seen : Level) →
    length (between_bits (j ++ Bit x seen ∷ [])) ≡ length (between_bits j)
bit_more j x seen = let n = between_both j (Bit x seen ∷ []) in omega (arith, n)

pub other_more : (j : List Entry) (e : Entry) → IsOther e →
    length (between_bits (j ++ e ∷ [])) ≡ length (between_bits j) + 1
other_more j e own = let n = between_both j (e ∷ []) in let one = other_alone e own in omega (arith, n, one)

pub few_more : (j : List Entry) (e : Entry) → length (between_bits (j ++ e ∷ [])) ≤ length (between_bits j) + 1
few_more j e = let n = between_both j (e ∷ []) in let one = few_alone e in omega (arith, n, one)

-- ---- room

pub fits_bit : (room : Room) (j : List Entry) (x seen : Level) → length (between_bits j) ≤ room.others →
    length j < room.all → Fits room (j ++ Bit x seen ∷ [])
fits_bit room j x seen fits less = record {
  all = let n = length-append j (Bit x seen ∷ []) in omega (arith, n, less);
  others = let n = bit_more j x seen in omega (arith, n, fits);
}

pub fits_more : (room : Room) (j : List Entry) (e : Entry) → length (between_bits j) < room.others →
    length j < room.all → Fits room (j ++ e ∷ [])
fits_more room j e fits less = record {
  all = let n = length-append j (e ∷ []) in omega (arith, n, less);
  others = let n = few_more j e in omega (arith, n, fits);
}

pub full_of_others : (room : Room) (j : List Entry) (e : Entry) → IsOther e → room.others ≤ length (between_bits j) →
    IsFullFor room j e
full_of_others room j e own used = record {
  none = λ fits. let n = other_more j e own in let few = fits.others in omega (arith, n, used, few);
}

-- ---- room for so many entries more, whatever they are

pub record HasFree (n : ℕ) (room : Room) (j : List Entry) : Type 0 where
  pub all : length j + n ≤ room.all
  pub others : length (between_bits j) + n ≤ room.others

pub free_more : (n : ℕ) (room : Room) (j : List Entry) (e : Entry) → HasFree (suc n) room j →
    HasFree n room (j ++ e ∷ [])
free_more n room j e h = record {
  all = let m = length-append j (e ∷ []) in let all = h.all in omega (arith, m, all);
  others = let m = few_more j e in let others = h.others in omega (arith, m, others);
}

pub free_aborted : (n : ℕ) (room : Room) (j : List Entry) (changed : Bool) → HasFree (suc n) room j →
    HasFree n room (j ++ abort_as changed)
free_aborted n room j true h = free_more n room j Abort h
free_aborted n room j false h =
    let P : List Entry → Type 0 = λ l. HasFree n room l in
    subst P (sym (append-nil j)) (record {
      all = let all = h.all in omega (arith, all);
      others = let others = h.others in omega (arith, others);
    })

pub free_not_full : (n : ℕ) (room : Room) (j : List Entry) (e : Entry) → HasFree (suc n) room j →
    IsFullFor room j e → ⊥
free_not_full n room j e h full =
    let more = free_more n room j e h in full.none (record {
      all = let all = more.all in omega (arith, all);
      others = let others = more.others in omega (arith, others);
    })

-- ---- an entry is a bit or not

pub bits_apart : (j : List Entry) → length j ≡ length (bits_of j) + length (between_bits j)
bits_apart [] = refl
bits_apart (Bit driven seen ∷ j) = let n = bits_apart j in omega (arith, n)
bits_apart (Up u ∷ j) = let n = bits_apart j in omega (arith, n)
bits_apart (Abort ∷ j) = let n = bits_apart j in omega (arith, n)
bits_apart (Stored m ∷ j) = let n = bits_apart j in omega (arith, n)
bits_apart (Overrun m ∷ j) = let n = bits_apart j in omega (arith, n)
bits_apart (Off ∷ j) = let n = bits_apart j in omega (arith, n)
