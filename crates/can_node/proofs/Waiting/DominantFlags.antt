-- Flags of dominant levels: what a level makes of them, and how they go on.
use Rattle.std.proofs.Common.{◌≡◌, ◌+◌, ◌-◌, ◌<◌, ◌≤◌, ℕ, suc, Bool, true, false, nat_lt, if◌then◌else◌}
use Rattle.std.proofs.Common.{List, [], ◌∷◌, ◌++◌, replicate, refl, ap, sym, subst, ◌∙◌, arith}
use Rattle.std.proofs.lemmas.Bool.Decides.{nat_tests}
use Rattle.std.proofs.lemmas.List.{replicate-append-replicate}
use Rattle.can_levels.specs.declared.level.Level.{Level}
use Rattle.can_levels.specs.declared.level.Level.TheVariants.{Dominant, Recessive}
use Rattle.can_levels.specs.declared.segment.Segment.{Segment}
use Rattle.can_bits.specs.declared.shift.Shift.{Shift}
use Rattle.can_node.specs.declared.after_bit.AfterBit.TheVariants.{InPiece, Ended}
use Rattle.can_node_rules.specs.declared.cause.Cause.TheVariants.{Bit as BitError}
use Rattle.can_node.specs.declared.ending.Ending.TheVariants.{Flag as EndingFlag}
use Rattle.can_node.specs.declared.stage.Stage.TheVariants.{InFlag as StageInFlag}
use Rattle.can_node_rules.specs.declared.fault_site.FaultSite.TheVariants.{InFlag}
use Rattle.can_node_rules.specs.declared.flag_kind.FlagKind.{FlagKind}
use Rattle.can_node_rules.specs.Bits.{Bit, dominant_bit, dominant_bits}
use Rattle.can_node_rules.specs.Context.{ContextValue, flag_level}
use Rattle.can_node_rules.specs.Pieces.Place.{AtFlag, AtDelimiter}
use Rattle.can_node_rules.specs.Pieces.Piece.{Fault, Flag}
use Rattle.can_node_rules.specs.Table.{Row, flag_segment}
use Rattle.can_node_rules.specs.Table.Row.{flag, flag_fault}
use Rattle.can_node_rules.specs.Cut.{IsUnfinished}
use Rattle.can_node_rules.specs.UnfinishedPieces.{IsInDominantFlag, IsInFlag}
use Rattle.can_node.specs.Inside.Turns.{IsTurn, one_more}
use Rattle.can_node_rules.proofs.Bits.DrivenAlike.{forces_on}

-- six dominant levels are a flag
flag_ends : (c : ContextValue) (n : ℕ) (seen : Level) (bits : List Bit) → flag_level c ≡ Dominant → seen ≡ Dominant →
    5 ≤ n → IsInDominantFlag n c bits → Row c AtFlag (bits ++ dominant_bit seen ∷ []) Flag AtDelimiter
flag_ends c n seen bits drives level most h =
    let P : List Bit → Type 0 = λ t. Row c AtFlag t Flag AtDelimiter in
    let few = h.few in
    let five : n ≡ 5 = omega arith in
    let levels : replicate n Dominant ++ seen ∷ [] ≡ replicate 6 Dominant = rw (five, level) refl in
    subst P (sym (forces_on bits (replicate n Dominant) (seen ∷ []) (replicate 6 Dominant) h.whole levels))
    (flag drives)

-- a recessive level before is a fault
pub flag_breaks : (c : ContextValue) (n : ℕ) (seen : Level) (kind : FlagKind) (segment : Segment) (bits : List Bit) →
    flag_level c ≡ Dominant → seen ≡ Recessive → kind ≡ c.flag → segment ≡ flag_segment kind →
    IsInDominantFlag n c bits →
    Row c AtFlag (bits ++ dominant_bit seen ∷ []) (Fault InFlag BitError segment) AtFlag
flag_breaks c n seen kind segment bits drives level same is h =
    let P : List Bit → Type 0 = λ t. Row c AtFlag t (Fault InFlag BitError segment) AtFlag in
    let line : List Level = replicate n Dominant ++ Recessive ∷ [] in
    let Q : Segment → Type 0 = λ s. Row c AtFlag (dominant_bits line) (Fault InFlag BitError s) AtFlag in
    let levels : replicate n Dominant ++ seen ∷ [] ≡ line = rw level refl in
    subst P (sym (forces_on bits (replicate n Dominant) (seen ∷ []) line h.whole levels))
    (subst Q (sym (is ∙ ap (λ k. flag_segment k) same)) (flag_fault n drives h.few))

-- ---- one level more

dominant_stays : (c : ContextValue) (n : ℕ) (seen : Level) (bits : List Bit) → flag_level c ≡ Dominant →
    seen ≡ Dominant → n < 5 → IsInDominantFlag n c bits →
    IsInFlag (flag_level c) (n + 1) seen c (bits ++ dominant_bit seen ∷ [])
dominant_stays c n seen bits drives level less h =
    let P : Level → Type 0 = λ v. IsInFlag v (n + 1) seen c (bits ++ dominant_bit seen ∷ []) in
    let levels = ap (λ x. replicate n Dominant ++ x ∷ []) level ∙ replicate-append-replicate n 1 Dominant in
    subst P (sym drives) (record {
      few = omega arith;
      whole = forces_on bits (replicate n Dominant) (seen ∷ []) (replicate (n + 1) Dominant) h.whole levels;
    })

dominant_by : (t : Bool) (shift : Shift) (c now : ContextValue) (n : ℕ) (seen : Level) (bits : List Bit) →
    nat_lt n 5 ≡ t →
    flag_level c ≡ Dominant → seen ≡ Dominant → IsInDominantFlag n c bits →
    IsTurn shift c now AtFlag bits (dominant_bit seen)
    (if t then InPiece (StageInFlag (n + 1) seen) else Ended EndingFlag)
dominant_by true shift c now n seen bits few drives level h =
    (refl, dominant_stays c n seen bits drives level (grind (arith, nat_tests)) h)
dominant_by false shift c now n seen bits most drives level h =
    flag_ends c n seen bits drives level (grind (arith, nat_tests)) h

pub dominant_more : (shift : Shift) (c now : ContextValue) (n : ℕ) (seen : Level) (bits : List Bit) →
    flag_level c ≡ Dominant → seen ≡ Dominant → IsInDominantFlag n c bits →
    IsTurn shift c now AtFlag bits (dominant_bit seen) (one_more n seen)
dominant_more shift c now n seen bits drives level h =
    dominant_by (nat_lt n 5) shift c now n seen bits refl drives level h

-- ---- a flag that isn't finished: it goes on with the levels that are waited for

pub open_dominant_flag : (n : ℕ) (c : ContextValue) (bits : List Bit) → flag_level c ≡ Dominant →
    IsInDominantFlag n c bits →
    IsUnfinished c AtFlag bits
open_dominant_flag n c bits drives h =
    let P : List Bit → Type 0 = λ t. Row c AtFlag t Flag AtDelimiter in
    let few = h.few in
    let more : List Level = replicate (suc (5 - n)) Dominant in
    let all : n + suc (5 - n) ≡ 6 = omega arith in
    let levels = replicate-append-replicate n (suc (5 - n)) Dominant ∙ ap (λ k. replicate k Dominant) all in
    let whole = forces_on bits (replicate n Dominant) more (replicate 6 Dominant) h.whole levels in
    record {
      piece = Flag;
      next = AtDelimiter;
      more = dominant_bit Dominant;
      rest = dominant_bits (replicate (5 - n) Dominant);
      lawful = subst P (sym whole) (flag drives);
    }
