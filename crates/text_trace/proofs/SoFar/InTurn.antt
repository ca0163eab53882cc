-- What all nodes drive, and the lines of all, where they are changed one after another.
use Rattle.std.proofs.Common.{◌≡◌, ℕ, ◌+◌, ◌<◌, ◌≤◌, zero, suc, List, [], ◌∷◌, ◌++◌, length, map, slice_set}
use Rattle.std.proofs.Common.{refl, sym, ap, ◌∙◌, arith, append_assoc, append-nil}
use Rattle.can_levels.specs.declared.level.Level.{Level}
use Rattle.can_levels.specs.declared.level.Level.TheVariants.{Dominant, Recessive}
use Rattle.text_report.specs.ReportLines.{numbered}
use Rattle.can_levels.specs.BusLevel.{wired}

-- ---- levels

-- so many of them drive this together
abbrev pub level_to : {A : Type 0} → (A → Level) → ℕ → List A → Level
level_to f zero xs = Recessive
level_to f (suc k) [] = Recessive
level_to f (suc k) (x ∷ xs) = wired (f x ∷ level_to f k xs ∷ [])

-- one that drives recessive changes nothing
pub drives_nothing : (level : Level) → level ≡ wired (level ∷ Recessive ∷ [])
drives_nothing Dominant = refl
drives_nothing Recessive = refl

first_drives : (level : Level) → wired (Recessive ∷ level ∷ []) ≡ wired (level ∷ Recessive ∷ [])
first_drives Dominant = refl
first_drives Recessive = refl

three_drive : (one two three : Level) →
    wired (wired (one ∷ two ∷ []) ∷ three ∷ []) ≡ wired (one ∷ wired (two ∷ three ∷ []) ∷ [])
three_drive Dominant two three = refl
three_drive Recessive Dominant three = refl
three_drive Recessive Recessive Dominant = refl
three_drive Recessive Recessive Recessive = refl

all_drive : (level : Level) (levels : List Level) → wired (level ∷ wired levels ∷ []) ≡ wired (level ∷ levels)
all_drive Dominant levels = refl
all_drive Recessive [] = refl
all_drive Recessive (Dominant ∷ levels) = refl
all_drive Recessive (Recessive ∷ levels) = all_drive Recessive levels

-- one more
level_more : {A : Type 0} (f : A → Level) (k : ℕ) (xs : List A) (z : A) → k < length xs →
    wired (level_to f k xs ∷ f z ∷ []) ≡ level_to f (suc k) (slice_set xs k z)
level_more f k [] z less = absurd (omega (arith, less))
level_more f zero (x ∷ xs) z less = first_drives (f z)
level_more f (suc k) (x ∷ xs) z less =
    three_drive (f x) (level_to f k xs) (f z)
    ∙ ap (λ l. wired (f x ∷ l ∷ [])) (level_more f k xs z (omega (arith, less)))

pub level_next : {A : Type 0} (f : A → Level) (k : ℕ) (xs : List A) (z : A) (bus new : Level) → k < length xs →
    bus ≡ level_to f k xs → new ≡ wired (bus ∷ f z ∷ []) → new ≡ level_to f (k + 1) (slice_set xs k z)
level_next f k xs z bus new less so_far is =
    let one : suc k ≡ k + 1 = omega arith in
    is ∙ ap (λ l. wired (l ∷ f z ∷ [])) so_far ∙ level_more f k xs z less
    ∙ ap (λ n. level_to f n (slice_set xs k z)) one

-- all
pub level_all : {A : Type 0} (f : A → Level) (k : ℕ) (xs : List A) → length xs ≤ k →
    level_to f k xs ≡ wired (map f xs)
level_all f zero [] past = refl
level_all f zero (x ∷ xs) past = absurd (omega (arith, past))
level_all f (suc k) [] past = refl
level_all f (suc k) (x ∷ xs) past =
    ap (λ l. wired (f x ∷ l ∷ [])) (level_all f k xs (omega (arith, past))) ∙ all_drive (f x) (map f xs)

-- ---- lines

-- those of so many of them
abbrev pub lines_to : {A : Type 0} → (ℕ → A → List ℕ) → ℕ → ℕ → List A → List ℕ
lines_to f n zero xs = []
lines_to f n (suc k) [] = []
lines_to f n (suc k) (x ∷ xs) = f n x ++ lines_to f (n + 1) k xs

-- one more
lines_more : {A : Type 0} (f : ℕ → A → List ℕ) (n k : ℕ) (xs : List A) (z : A) → k < length xs →
    lines_to f n k xs ++ f (n + k) z ≡ lines_to f n (suc k) (slice_set xs k z)
lines_more f n k [] z less = absurd (omega (arith, less))
lines_more f n zero (x ∷ xs) z less =
    ap (λ m. f m z) (omega arith) ∙ sym (append-nil (f n z))
lines_more f n (suc k) (x ∷ xs) z less =
    append_assoc (f n x) (lines_to f (n + 1) k xs) (f (n + suc k) z)
    ∙ ap (λ m. f n x ++ (lines_to f (n + 1) k xs ++ f m z)) (omega arith)
    ∙ ap (λ l. f n x ++ l) (lines_more f (n + 1) k xs z (omega (arith, less)))

pub lines_next : {A : Type 0} (f : ℕ → A → List ℕ) (k : ℕ) (xs : List A) (z : A) (begun old new : List ℕ) →
    k < length xs → old ≡ begun ++ lines_to f 0 k xs → new ≡ old ++ f k z →
    new ≡ begun ++ lines_to f 0 (k + 1) (slice_set xs k z)
lines_next f k xs z begun old new less so_far wrote =
    let one : suc k ≡ k + 1 = omega arith in
    wrote ∙ ap (λ l. l ++ f k z) so_far ∙ append_assoc begun (lines_to f 0 k xs) (f k z)
    ∙ ap (λ n. begun ++ (lines_to f 0 k xs ++ f n z)) (omega arith)
    ∙ ap (λ l. begun ++ l) (lines_more f 0 k xs z less)
    ∙ ap (λ n. begun ++ lines_to f 0 n (slice_set xs k z)) one

-- all
pub lines_all : {A : Type 0} (f : ℕ → A → List ℕ) (n k : ℕ) (xs : List A) → length xs ≤ k →
    lines_to f n k xs ≡ numbered f n xs
lines_all f n zero [] past = refl
lines_all f n zero (x ∷ xs) past = absurd (omega (arith, past))
lines_all f n (suc k) [] past = refl
lines_all f n (suc k) (x ∷ xs) past = ap (λ l. f n x ++ l) (lines_all f (n + 1) k xs (omega (arith, past)))
