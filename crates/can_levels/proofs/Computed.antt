-- Concrete stuffed parts, by computing.
use Rattle.std.proofs.Common.{◌≡◌, ◌<◌, ◌&&◌, ℕ, Bool, true, nat_le, List, [], ◌∷◌, reverse, arith}
use Rattle.std.proofs.lemmas.Bool.{and_parts, leb-true}
use Rattle.can_levels.specs.declared.level.Level.{Level}
use Rattle.can_levels.specs.Stuffing.{Stuffed}
use Rattle.can_levels.proofs.Runs.{run, IsShort}
use Rattle.can_levels.proofs.Stuffs.{unstuffed, stuffed_from}

-- whether no level is the sixth of equal ones, with the newest level first
abbrev pub is_short : List Level → Bool
is_short [] = true
is_short (x ∷ past) = is_short past && nat_le (run (x ∷ past)) 5

-- the test says so
pub short_by : (past : List Level) → is_short past ≡ true → IsShort past
short_by [] h = tt
short_by (x ∷ past) h =
    let both = and_parts (is_short past) (nat_le (run (x ∷ past)) 5) h in
    (leb-true (run (x ∷ past)) 5 both.1, short_by past both.0)

-- s is w with its stuff bits where three tests on it say so
pub stuffed_by : (w s : List Level) (n : ℕ) → is_short (reverse s) ≡ true → run (reverse s) ≡ n → n < 5 →
    unstuffed (reverse s) ≡ reverse w → Stuffed w s
stuffed_by w s n short last few same =
    stuffed_from w s (record { short = short_by (reverse s) short; closed = omega (arith, last, few); unstuffs = same })
