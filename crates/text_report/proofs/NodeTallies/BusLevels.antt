-- The level on the bus, node after node.
use Rattle.std.proofs.Common.{◌≡◌, ℕ, ◌+◌, ◌<◌, ◌≤◌, List, [], ◌∷◌, length, map, drop, get_or, refl, sym, ap, ◌∙◌}
use Rattle.std.proofs.Math.ListN.{drop_of_length-le}
use Rattle.can_levels.specs.declared.level.Level.{Level}
use Rattle.can_levels.specs.declared.level.Level.TheVariants.{Dominant, Recessive}
use Rattle.can_levels.specs.BusLevel.{wired}
use Rattle.text_report.proofs.WrittenLines.Written.{rest_is}

-- the bus has what it had and one node more drives
with_one : (bus level : Level) (rest : List Level) →
    wired (wired (bus ∷ level ∷ []) ∷ rest) ≡ wired (bus ∷ level ∷ rest)
with_one Dominant level rest = refl
with_one Recessive Dominant rest = refl
with_one Recessive Recessive rest = refl

pub drives_more : {A : Type 0} (f : A → Level) (xs : List A) (i : ℕ) (x : A) (bus new all : Level) →
    i < length xs → x ≡ get_or xs i x →
    new ≡ wired (bus ∷ f x ∷ []) → wired (bus ∷ map f (drop i xs)) ≡ all → wired (new ∷ map f (drop (i + 1) xs)) ≡ all
drives_more f xs i x bus new all less is drives so_far =
    ap (λ level. wired (level ∷ map f (drop (i + 1) xs))) drives ∙ with_one bus (f x) (map f (drop (i + 1) xs))
    ∙ ap (λ l. wired (bus ∷ map f l)) (sym (rest_is xs i x less is)) ∙ so_far

-- no node left
alone : (bus : Level) → bus ≡ wired (bus ∷ [])
alone Dominant = refl
alone Recessive = refl

pub all_drive : {A : Type 0} (f : A → Level) (xs : List A) (i : ℕ) (bus all : Level) → length xs ≤ i →
    wired (bus ∷ map f (drop i xs)) ≡ all → bus ≡ all
all_drive f xs i bus all past so_far =
    alone bus ∙ ap (λ l. wired (bus ∷ map f l)) (sym (drop_of_length-le xs past)) ∙ so_far
