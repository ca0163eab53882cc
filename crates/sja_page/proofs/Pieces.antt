-- Pieces of a text, each of which lacks a byte.
use denote.Ref.{Bor}
use Rattle.std.proofs.Common.{ℕ, zero, suc, IfSome, List, [], ◌∷◌, arith, map, slice_get}
use Rattle.std.specs.Prelude.{All}
use Rattle.std.specs.Str.Iter.{LacksByte}

-- where each piece at its place lacks the byte, all do
pub each :
    (c : ℕ) (xs : List (Bor (List ℕ))) → ((k : ℕ) → IfSome (slice_get xs k) (λ x. LacksByte c x.now))
    → All (LacksByte c) (map (λ x. x.now) xs)
each c [] h k d l = absurd (omega arith)
each c (x ∷ xs) h zero d l = h 0
each c (x ∷ xs) h (suc k) d l = each c xs (λ j. h (suc j)) k d (omega arith)
