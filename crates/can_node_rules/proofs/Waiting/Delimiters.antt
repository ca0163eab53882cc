-- Error delimiters and overload delimiters: what a level makes of them, and what the stage's counts say of the bits.
use Rattle.std.proofs.Common.{◌≡◌, ◌+◌, ◌-◌, ◌%◌, ◌<◌, ◌≤◌, ◌==◌, ◌&&◌, ℕ, zero, suc, false, List, []}
use Rattle.std.proofs.Common.{◌∷◌, ◌++◌, replicate, length, refl, ap, sym, subst, ◌∙◌, arith, append_assoc}
use Rattle.std.proofs.lemmas.Bool.Decides.{nat_tests}
use Rattle.std.proofs.lemmas.List.{append-nil, replicate_more, replicate-append-replicate}
use Rattle.std.proofs.lemmas.List.{length-replicate, length-append, nil_from_length}
use Rattle.can_levels.specs.declared.level.Level.{Level}
use Rattle.can_levels.specs.declared.level.Level.TheVariants.{Dominant, Recessive}
use Rattle.can_levels.specs.declared.segment.Segment.TheVariants.{Delimiter}
use Rattle.can_node_rules.specs.declared.cause.Cause.TheVariants.{Form as FormError}
use Rattle.can_node_rules.specs.declared.fault_site.FaultSite.TheVariants.{InDelimiter}
use Rattle.can_node_rules.specs.Bits.{Bit, recessive_bit, recessive_bits, seen_of}
use Rattle.can_node_rules.specs.Context.{ContextValue}
use Rattle.can_node_rules.specs.Pieces.Place.{AtDelimiter, AtInterframeSpace, AtFlag}
use Rattle.can_node_rules.specs.Pieces.Piece.{Fault, Delimiter}
use Rattle.can_node_rules.specs.Table.{Row}
use Rattle.can_node_rules.specs.Table.Row.{delimiter, delimiter_overload, delimiter_fault}
use Rattle.can_node_rules.specs.Counting.{are_dominant}
use Rattle.can_node_rules.specs.Cut.{IsUnfinished}
use Rattle.can_node_rules.specs.UnfinishedPieces.{IsInDelimiter, IsCycle}
use Rattle.can_node_rules.specs.UnfinishedPieces.IsCycle.{nothing, some}
use Rattle.can_node_rules.proofs.Bits.DrivenAlike.{receives_on, receives_length, seen_received}

-- no bit came yet
pub delimits_from : IsInDelimiter 0 0 []
delimits_from = record { count = 0; cycle = nothing; few = omega arith; whole = refl }

-- a dominant level more in the count from 1 to 8
next_cycle : (k d : ℕ) → IsCycle k d → IsCycle (k + 1) (d % 8 + 1)
next_cycle k d nothing = some 0 0 (omega arith) refl
next_cycle k d (some j n less e) = some (j + 1) ((n + 1) % 8) (omega arith) (omega arith)

-- a dominant level where no recessive one came
pub dominant_after_flag : (d r : ℕ) (seen : Level) (bits : List Bit) → seen ≡ Dominant → r ≡ 0 →
    IsInDelimiter d r bits → IsInDelimiter (d % 8 + 1) 0 (bits ++ recessive_bit seen ∷ [])
dominant_after_flag d r seen bits level none h =
    let line : List Level = replicate h.count Dominant ++ replicate r Recessive in
    let on : List Level = replicate (h.count + 1) Dominant ++ [] in
    let more : line ++ seen ∷ [] ≡ on =
    rw (level, none) (simp (append-nil, replicate_more)) in
    record {
      count = h.count + 1;
      cycle = next_cycle h.count d h.cycle;
      few = omega arith;
      whole = receives_on bits line (seen ∷ []) on h.whole more;
    }

-- the levels after the dominant ones
pub delimited : (d r : ℕ) (bits : List Bit) (l m : List Level) (h : IsInDelimiter d r bits) →
    replicate r Recessive ++ l ≡ m → bits ++ recessive_bits l ≡ recessive_bits (replicate h.count Dominant ++ m)
delimited d r bits l m h e =
    let front : List Level = replicate h.count Dominant in
    receives_on bits (front ++ replicate r Recessive) l (front ++ m) h.whole
    (append_assoc front (replicate r Recessive) l ∙ ap (λ t. front ++ t) e)

-- the eighth recessive level ends the delimiter
pub delimiter_ends : (c : ContextValue) (d r : ℕ) (seen : Level) (bits : List Bit) → seen ≡ Recessive → 7 ≤ r →
    IsInDelimiter d r bits → Row c AtDelimiter (bits ++ recessive_bit seen ∷ []) Delimiter AtInterframeSpace
delimiter_ends c d r seen bits level most h =
    let P : List Bit → Type 0 = λ t. Row c AtDelimiter t Delimiter AtInterframeSpace in
    let few = h.few in
    let seven : r ≡ 7 = omega arith in
    subst P (sym (delimited d r bits (seen ∷ []) (replicate 8 Recessive) h (rw (seven, level) refl)))
    (delimiter h.count)

-- a dominant eighth level is an overload
pub delimiter_overloads : (c : ContextValue) (d r : ℕ) (seen : Level) (bits : List Bit) → seen ≡ Dominant → 7 ≤ r →
    IsInDelimiter d r bits → Row c AtDelimiter (bits ++ recessive_bit seen ∷ []) Delimiter AtFlag
delimiter_overloads c d r seen bits level most h =
    let P : List Bit → Type 0 = λ t. Row c AtDelimiter t Delimiter AtFlag in
    let few = h.few in
    let seven : r ≡ 7 = omega arith in
    subst P
    (sym (delimited d r bits (seen ∷ []) (replicate 7 Recessive ++ Dominant ∷ []) h (rw (seven, level) refl)))
    (delimiter_overload h.count)

-- a dominant level before it, and after a recessive one, is a fault
pub delimiter_breaks : (c : ContextValue) (d r : ℕ) (seen : Level) (bits : List Bit) → seen ≡ Dominant → 1 ≤ r → r < 7 →
    IsInDelimiter d r bits → Row c AtDelimiter (bits ++ recessive_bit seen ∷ []) (Fault InDelimiter FormError Delimiter)
    AtFlag
delimiter_breaks c d zero seen bits level one less h = absurd (omega arith)
delimiter_breaks c d (suc i) seen bits level one less h =
    let P : List Bit → Type 0 = λ t. Row c AtDelimiter t (Fault InDelimiter FormError Delimiter) AtFlag in
    subst P
    (sym (delimited d (suc i) bits (seen ∷ []) (replicate (suc i) Recessive ++ Dominant ∷ []) h (rw level refl)))
    (delimiter_fault h.count i (omega arith))

-- the delimiter goes on with recessive levels
pub open_delimiting : (d r : ℕ) (c : ContextValue) (bits : List Bit) → IsInDelimiter d r bits →
    IsUnfinished c AtDelimiter bits
open_delimiting d r c bits h =
    let P : List Bit → Type 0 = λ t. Row c AtDelimiter t Delimiter AtInterframeSpace in
    let few = h.few in
    let all : r + suc (7 - r) ≡ 8 = omega arith in
    let rest : replicate r Recessive ++ replicate (suc (7 - r)) Recessive ≡ replicate 8 Recessive =
    replicate-append-replicate r (suc (7 - r)) Recessive ∙ ap (λ k. replicate k Recessive) all in
    let whole = delimited d r bits (replicate (suc (7 - r)) Recessive) (replicate 8 Recessive) h rest in
    record {
      piece = Delimiter;
      next = AtInterframeSpace;
      more = recessive_bit Recessive;
      rest = recessive_bits (replicate (7 - r) Recessive);
      lawful = subst P (sym whole) (delimiter h.count);
    }

-- ---- what the counts say

-- the eighth dominant level comes where seven were counted
cycle_eighth : (k d : ℕ) → IsCycle k d → ((k + 1) % 8 == 0) ≡ (d == 7)
cycle_eighth k d nothing = refl
cycle_eighth k d (some j n less e) = grind (arith, nat_tests)

-- none came exactly where none is counted
cycle_none : (k d : ℕ) → IsCycle k d → d ≡ 0 → k ≡ 0
cycle_none k d nothing e = refl
cycle_none k d (some j n less e) h = omega arith

none_cycle : (k d : ℕ) → IsCycle k d → k ≡ 0 → d ≡ 0
none_cycle k d nothing e = refl
none_cycle k d (some j n less e) h = omega arith

-- levels of which the first are dominant are dominant if the others are
all_dominant : (k : ℕ) (l : List Level) → are_dominant (replicate k Dominant ++ l) ≡ are_dominant l
all_dominant zero l = refl
all_dominant (suc k) l = all_dominant k l

-- how many bits came
delimiter_length : (d r : ℕ) (bits : List Bit) (h : IsInDelimiter d r bits) → length bits ≡ h.count + r
delimiter_length d r bits h =
    let front : List Level = replicate h.count Dominant in
    let rest : List Level = replicate r Recessive in
    receives_length bits (front ++ rest) h.whole ∙ length-append front rest
    ∙ ap (λ n. n + length rest) (length-replicate h.count Dominant)
    ∙ ap (λ n. h.count + n) (length-replicate r Recessive)

-- one more than a number isn't 0
pub not_none : (i : ℕ) → (suc i == 0) ≡ false
not_none i = grind (arith, nat_tests)

-- all of the bits are dominant exactly where no recessive level is counted
all_seen_dominant : (d r : ℕ) (bits : List Bit) → IsInDelimiter d r bits → are_dominant (seen_of bits) ≡ (r == 0)
all_seen_dominant d zero bits h =
    ap (λ (t : List Bit). are_dominant (seen_of t)) h.whole
    ∙ ap (λ t. are_dominant t) (seen_received (replicate h.count Dominant ++ [])) ∙ all_dominant h.count []
all_seen_dominant d (suc i) bits h =
    ap (λ (t : List Bit). are_dominant (seen_of t)) h.whole
    ∙ ap (λ t. are_dominant t) (seen_received (replicate h.count Dominant ++ replicate (suc i) Recessive))
    ∙ all_dominant h.count (replicate (suc i) Recessive) ∙ sym (not_none i)

-- a next level would be the eighth, sixteenth .. dominant one exactly where seven are counted, and no recessive one
pub eighth_is : (d r : ℕ) (bits : List Bit) → IsInDelimiter d r bits →
    (are_dominant (seen_of bits) && (length bits + 1) % 8 == 0) ≡ (r == 0 && d == 7)
eighth_is d zero bits h =
    let all = all_seen_dominant d zero bits h in
    let long = delimiter_length d zero bits h in
    let count : length bits ≡ h.count = omega arith in
    rw (all, count) (cycle_eighth h.count d h.cycle)
eighth_is d (suc i) bits h = rw (all_seen_dominant d (suc i) bits h, not_none i) refl

-- no bit came where none is counted
pub first_is : (d r : ℕ) (bits : List Bit) → IsInDelimiter d r bits → d ≡ 0 → r ≡ 0 → bits ≡ []
first_is d r bits h none few =
    let long = delimiter_length d r bits h in
    let count = cycle_none h.count d h.cycle none in
    nil_from_length bits (omega arith)

-- and none is counted where none came
pub first_only : (d r : ℕ) (bits : List Bit) → IsInDelimiter d r bits → bits ≡ [] → (d ≡ 0) × (r ≡ 0)
first_only d r bits h none =
    let long = delimiter_length d r bits h in
    let empty : length bits ≡ 0 = ap (λ (t : List Bit). length t) none in
    (none_cycle h.count d h.cycle (omega arith), omega arith)
