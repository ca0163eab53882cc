-- What each activation left, and what was released of it, with a try more.
use Rattle.std.proofs.Common.{◌≡◌, ◌+◌, ℕ, zero, suc, cond, List, [], ◌∷◌, ◌++◌, length, refl, ap, ◌∙◌, append-nil}
use Rattle.std.proofs.Common.{arith}
use Rattle.std.specs.Prelude.{slice_index_or, ◌==◌}
use Rattle.std.proofs.lemmas.Bool.{eq-eqb, ne_eqb}
use Rattle.sja_link.specs.declared.driver_ledger.DriverLedger.{DriverLedger}
use Rattle.sja_link.specs.DriverLedgers.{held_by}
use Rattle.lemmas.proofs.Gathered.{gathered_append}
use Rattle.sja_driver.specs.declared.release.Release.{Release}
use Rattle.sja_driver.specs.Logs.{leaves, releases_by, of_activation, released_of}
use Rattle.sja_driver.specs.Tries.Tried.{Released}

-- ---- what each activation left

pub leaves_last : (xs : List DriverLedger) (y : List (List ℕ)) → slice_index_or (leaves xs y) (length xs) [] ≡ y
leaves_last [] y = refl
leaves_last (x ∷ xs) y = leaves_last xs y

pub leaves_before : (xs : List DriverLedger) (l : DriverLedger) (y : List (List ℕ)) →
    slice_index_or (leaves (xs ++ l ∷ []) y) (length xs) [] ≡ held_by l
leaves_before [] l y = refl
leaves_before (x ∷ xs) l y = leaves_before xs l y

pub leaves_else : (xs : List DriverLedger) (y z : List (List ℕ)) (a : ℕ) → (length xs ≡ a → ⊥) →
    slice_index_or (leaves xs y) a [] ≡ slice_index_or (leaves xs z) a []
leaves_else [] y z zero ne = elim (ne refl) [ ]
leaves_else [] y z (suc a) ne = refl
leaves_else (x ∷ xs) y z zero ne = refl
leaves_else (x ∷ xs) y z (suc a) ne = leaves_else xs y z a (λ e. ne (ap suc e))

pub leaves_more : (xs : List DriverLedger) (l : DriverLedger) (y : List (List ℕ)) (a : ℕ) → (length xs ≡ a → ⊥) →
    slice_index_or (leaves (xs ++ l ∷ []) []) a [] ≡ slice_index_or (leaves xs y) a []
leaves_more [] l y zero ne = elim (ne refl) [ ]
leaves_more [] l y (suc zero) ne = refl
leaves_more [] l y (suc (suc a)) ne = refl
leaves_more (x ∷ xs) l y zero ne = refl
leaves_more (x ∷ xs) l y (suc a) ne = leaves_more xs l y a (λ e. ne (ap suc e))

-- ---- what was released of each activation

pub released_same : (rs now : List Release) (a : ℕ) → now ≡ rs ++ [] → released_of now a ≡ released_of rs a
released_same rs now a e = ap (λ xs. released_of xs a) (e ∙ append-nil rs)

released_push : (rs now : List Release) (n : ℕ) (m : List ℕ) → now ≡ rs ++ releases_by n (Released m) → (a : ℕ) →
    released_of now a ≡ released_of rs a ++ (cond ((n + 1) == a) (m ∷ []) [] ++ [])
released_push rs now n m e a =
    ap (λ xs. released_of xs a) e ∙ gathered_append (of_activation a) rs (releases_by n (Released m))

pub released_one : (rs now : List Release) (n : ℕ) (m : List ℕ) → now ≡ rs ++ releases_by n (Released m) →
    released_of now (suc n) ≡ released_of rs (suc n) ++ m ∷ []
released_one rs now n m e = released_push rs now n m e (suc n)
    ∙ ap (λ b. released_of rs (suc n) ++ (cond b (m ∷ []) [] ++ [])) (eq-eqb (n + 1) (suc n) (omega arith))

pub released_none : (rs now : List Release) (n : ℕ) (m : List ℕ) → now ≡ rs ++ releases_by n (Released m) → (a : ℕ) →
    (n ≡ a → ⊥) → released_of now (suc a) ≡ released_of rs (suc a)
released_none rs now n m e a ne = released_push rs now n m e (suc a)
    ∙ ap (λ b. released_of rs (suc a) ++ (cond b (m ∷ []) [] ++ []))
    (ne_eqb (n + 1) (suc a) (λ x. ne (omega (arith, x))))
    ∙ append-nil (released_of rs (suc a))
