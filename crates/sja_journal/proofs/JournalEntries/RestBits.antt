-- Bits at rest that come next.
use Rattle.std.proofs.Common.{◌≡◌, ℕ, ◌≤◌, zero, suc, List, [], ◌∷◌, length, take, drop, refl, ap, arith}
use Rattle.sja_journal.specs.declared.entry.Entry.{Entry}
use Rattle.sja_journal.specs.declared.entry.Entry.TheVariants.{Bit, Up, Abort, Stored, Overrun, Off}
use Rattle.sja_journal.specs.declared.code.Code.{Code}
use Rattle.sja_journal.specs.declared.code.Code.TheVariants.{DominantAsDriven, DominantSeenRecessive}
use Rattle.sja_journal.specs.declared.code.Code.TheVariants.{RecessiveSeenDominant, RecessiveAsDriven, Other}
use Rattle.sja_journal.specs.RestBits.{rest_before}
use Rattle.sja_journal.specs.Inside.Codes.{decoded, is_rest, leading, AreWhole, IsOther}

-- ---- codes of bits at rest, many at once

-- of the first codes there are no more
pub record IsFront (n : ℕ) (codes : List Code) : Type 0 where
  pub few : leading is_rest (take n codes) ≤ n
  pub within : leading is_rest (take n codes) ≤ leading is_rest codes

pub rest_front : (n : ℕ) (codes : List Code) → IsFront n codes
rest_front zero codes = record { few = omega arith; within = omega arith }
rest_front (suc n) [] = record { few = omega arith; within = omega arith }
rest_front (suc n) (RecessiveAsDriven ∷ codes) =
    let f = rest_front n codes in let few = f.few in let within = f.within in
    record { few = omega (arith, few); within = omega (arith, within) }
rest_front (suc n) (DominantAsDriven ∷ codes) = record { few = omega arith; within = omega arith }
rest_front (suc n) (DominantSeenRecessive ∷ codes) = record { few = omega arith; within = omega arith }
rest_front (suc n) (RecessiveSeenDominant ∷ codes) = record { few = omega arith; within = omega arith }
rest_front (suc n) (Other ∷ codes) = record { few = omega arith; within = omega arith }

-- ---- the entries

other_first : (e : Entry) (es : List Entry) → IsOther e → rest_before (e ∷ es) ≡ 0
other_first (Bit driven seen) es own = elim own [ ]
other_first (Up u) es own = refl
other_first Abort es own = refl
other_first (Stored m) es own = refl
other_first (Overrun m) es own = refl
other_first Off es own = refl

-- the codes behind that of a bit are whole too
rest_whole : {code : Code} {codes : List Code} {others : List Entry} → code ≡ RecessiveAsDriven →
    AreWhole (code ∷ codes) others → AreWhole codes others
rest_whole {code} {codes} {others} is h =
    let own = rw is at h.many in record { many = omega (arith, own); none = h.none }

-- there are as many at rest as codes
pub rest_are : (codes : List Code) (others : List Entry) → AreWhole codes others →
    rest_before (decoded codes others) ≡ leading is_rest codes
rest_are [] others h = refl
rest_are (RecessiveAsDriven ∷ codes) others h = ap suc (rest_are codes others (rest_whole refl h))
rest_are (DominantAsDriven ∷ codes) others h = refl
rest_are (DominantSeenRecessive ∷ codes) others h = refl
rest_are (RecessiveSeenDominant ∷ codes) others h = refl
rest_are (Other ∷ codes) [] h = let n = h.many in absurd (omega (arith, n))
rest_are (Other ∷ codes) (e ∷ others) h = other_first e (decoded codes others) h.none.0

-- behind so many of them come the entries of the other codes
pub record SkipsRest (n : ℕ) (codes : List Code) (others : List Entry) : Type 0 where
  pub few : n ≤ length codes
  pub whole : AreWhole (drop n codes) others
  pub entries : decoded (drop n codes) others ≡ drop n (decoded codes others)

pub skips_rest : (n : ℕ) (codes : List Code) (others : List Entry) → AreWhole codes others →
    n ≤ leading is_rest codes → SkipsRest n codes others
skips_rest zero codes others h few = record { few = omega arith; whole = h; entries = refl }
skips_rest (suc n) [] others h few = absurd (omega (arith, few))
skips_rest (suc n) (RecessiveAsDriven ∷ codes) others h few =
    let p = skips_rest n codes others (rest_whole refl h) (omega (arith, few)) in
    let long = p.few in record { few = omega (arith, long); whole = p.whole; entries = p.entries }
skips_rest (suc n) (DominantAsDriven ∷ codes) others h few = absurd (omega (arith, few))
skips_rest (suc n) (DominantSeenRecessive ∷ codes) others h few = absurd (omega (arith, few))
skips_rest (suc n) (RecessiveSeenDominant ∷ codes) others h few = absurd (omega (arith, few))
skips_rest (suc n) (Other ∷ codes) others h few = absurd (omega (arith, few))
