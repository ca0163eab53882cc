-- Recessive bits after the entries of a journal, many at once.
use Rattle.std.proofs.Common.{◌≡◌, ◌+◌, ◌-◌, ℕ, zero, suc, List, [], ◌∷◌, ◌++◌, length, take, replicate, refl, ap}
use Rattle.std.proofs.Common.{◌∙◌, append-nil, arith, Bool, true}
use Rattle.std.specs.Prelude.{if◌then◌else◌}
use Rattle.std.proofs.lemmas.List.{take_all}
use Rattle.can_levels.specs.declared.level.Level.TheVariants.{Recessive}
use Rattle.lemmas.specs.Gathering.{total}
use Rattle.lemmas.proofs.Gathered.{total_append}
use Rattle.sja_journal.specs.declared.entry.Entry.{Entry}
use Rattle.sja_journal.specs.declared.entry.Entry.TheVariants.{Bit}
use Rattle.sja_journal.specs.declared.code.Code.{Code}
use Rattle.sja_journal.specs.declared.code.Code.TheVariants.{RecessiveAsDriven}
use Rattle.sja_journal.specs.Inside.Codes.{decoded, has_other, AreWhole}
use Rattle.sja_journal.proofs.JournalEntries.Decoding.{decoded_both}

-- a list that was filled up to so many elements more
pub filled_up : {A : Type 0} (x : A) (xs now : List A) (done : Bool) (len was n : ℕ) → done ≡ true → len ≡ was →
    was ≡ length xs →
    now ≡ (if done then take (len + n) xs ++ replicate (len + n - was) x else xs) → now ≡ xs ++ replicate n x
filled_up x xs now done len was n all same is items =
    let count : len + n - was ≡ n = omega (arith, same) in
    (rw all at items)
    ∙ ap (λ l. l ++ replicate (len + n - was) x) (take_all (len + n) xs (omega (arith, same, is)))
    ∙ ap (λ k. xs ++ replicate k x) count

-- ---- codes of bits, after the others

-- the others stay whole
pub whole_bits : (more codes : List Code) (others : List Entry) → total has_other more ≡ 0 → AreWhole codes others →
    AreWhole (codes ++ more) others
whole_bits more codes others none h = record {
  many = let m = h.many in let p = total_append has_other codes more in omega (arith, m, p, none);
  none = h.none;
}

-- and the entries are those before, and theirs
pub decoded_bits : (more codes : List Code) (others entries : List Entry) → decoded more [] ≡ entries →
    AreWhole codes others → decoded (codes ++ more) others ≡ decoded codes others ++ entries
decoded_bits more codes others entries are h =
    (rw (append-nil others) at (decoded_both codes more others [] h)) ∙ ap (λ l. decoded codes others ++ l) are

-- ---- recessive bits

pub rest_has_none : (n : ℕ) → total has_other (replicate n RecessiveAsDriven) ≡ 0
rest_has_none zero = omega arith
rest_has_none (suc n) = let h = rest_has_none n in omega (arith, h)

pub rest_decoded : (n : ℕ) → decoded (replicate n RecessiveAsDriven) [] ≡ replicate n (Bit Recessive Recessive)
rest_decoded zero = refl
rest_decoded (suc n) = ap (λ l. Bit Recessive Recessive ∷ l) (rest_decoded n)
