-- Flags of a node that drives recessive: they wait for six equal levels.
use Rattle.std.proofs.Common.{◌≡◌, ◌≢◌, ◌+◌, ◌-◌, ◌<◌, ◌≤◌, ℕ, zero, suc, Bool, true, false, nat_lt, if◌then◌else◌}
use Rattle.std.proofs.Common.{List, [], ◌∷◌, ◌++◌, replicate, length, refl, ap, sym, subst, ◌∙◌, arith, append_assoc}
use Rattle.std.proofs.lemmas.Bool.Decides.{nat_tests}
use Rattle.std.proofs.lemmas.List.{length-replicate, length-append}
use Rattle.can_levels.specs.declared.level.Level.{Level}
use Rattle.can_levels.specs.declared.level.Level.TheVariants.{Recessive}
use Rattle.can_bits.specs.declared.shift.Shift.{Shift}
use Rattle.can_levels.specs.Stuffing.{EndsInEqual}
use Rattle.can_node.specs.declared.after_bit.AfterBit.TheVariants.{InPiece, Ended}
use Rattle.can_node.specs.declared.ending.Ending.TheVariants.{Flag as EndingFlag}
use Rattle.can_node.specs.declared.stage.Stage.TheVariants.{InFlag as StageInFlag}
use Rattle.can_node_rules.specs.Bits.{Bit, recessive_bit, recessive_bits, IsFirst}
use Rattle.can_node_rules.specs.Context.{ContextValue, flag_level}
use Rattle.can_node_rules.specs.Pieces.Place.{AtFlag, AtDelimiter}
use Rattle.can_node_rules.specs.Pieces.Piece.{Flag}
use Rattle.can_node_rules.specs.Table.{Row}
use Rattle.can_node_rules.specs.Table.Row.{flag_passive}
use Rattle.can_node_rules.specs.Cut.{IsUnfinished}
use Rattle.can_node_rules.specs.UnfinishedPieces.{IsInPassiveFlag, IsInFlag}
use Rattle.can_node.specs.Inside.Turns.{IsTurn, one_more}
use Rattle.can_node_rules.proofs.Bits.DrivenAlike.{receives_on}
use Rattle.can_node_rules.proofs.Waiting.Firsts.{no_front_yet, one_on, last_on, first_run}
use Rattle.can_node_rules.proofs.Waiting.Firsts.{same_end, ends_as, before_end, end_as, push_run}

-- a list that ends in six equal levels has six
pub six_long : (m : List Level) → EndsInEqual 6 m → 6 ≤ length m
six_long m ends =
    let long = ap (λ (t : List Level). length t) ends.2 ∙ length-append ends.0 (replicate 6 ends.1) in
    let six : length (replicate 6 ends.1) ≡ 6 = length-replicate 6 ends.1 in
    omega arith

-- a node that drives recessive waits in its flag
waits_in_flag : (c : ContextValue) (n : ℕ) (last : Level) (bits : List Bit) → flag_level c ≡ Recessive →
    IsInPassiveFlag n last c bits → IsInFlag (flag_level c) n last c bits
waits_in_flag c n last bits drives h =
    let P : Level → Type 0 = λ v. IsInFlag v n last c bits in subst P (sym drives) h

-- one more level like the last one, not the sixth
wait_goes : (c : ContextValue) (n next : ℕ) (last seen : Level) (bits : List Bit) → seen ≡ last → n < 5 → next ≡ n + 1 →
    IsInPassiveFlag n last c bits → IsInPassiveFlag next seen c (bits ++ recessive_bit seen ∷ [])
wait_goes c n next last seen bits same less e h =
    let Q : Level → Type 0 = λ v. IsInPassiveFlag next v c (bits ++ recessive_bit v ∷ []) in
    let go : Q last = record {
      levels = h.levels ++ last ∷ [];
      whole = receives_on bits h.levels (last ∷ []) (h.levels ++ last ∷ []) h.whole refl;
      few = omega arith;
      none = λ none. absurd (omega arith);
      waits = one_on (EndsInEqual 6) h.levels (6 - n) (6 - next) last (omega arith) h.waits;
    } in
    subst Q (sym same) go

-- the sixth
wait_ends : (c : ContextValue) (n : ℕ) (last seen : Level) (bits : List Bit) → flag_level c ≡ Recessive →
    seen ≡ last → 5 ≤ n → IsInPassiveFlag n last c bits →
    Row c AtFlag (bits ++ recessive_bit seen ∷ []) Flag AtDelimiter
wait_ends c n last seen bits drives same most h =
    let P : List Bit → Type 0 = λ t. Row c AtFlag t Flag AtDelimiter in
    let few = h.few in
    let line : List Level = h.levels ++ last ∷ [] in
    let levels : h.levels ++ seen ∷ [] ≡ line = rw same refl in
    subst P (sym (receives_on bits h.levels (seen ∷ []) line h.whole levels))
    (flag_passive drives (last_on (EndsInEqual 6) h.levels (6 - n) last (omega arith) h.waits))

-- a level and another one, fewer than six times, don't end in six equal ones
no_mix : (front : List Level) (x seen : Level) (i : ℕ) → seen ≢ x → i < 5 →
    EndsInEqual 6 ((front ++ x ∷ []) ++ seen ∷ replicate i seen) → ⊥
no_mix front x seen i other less ends =
    let line = sym (append_assoc front (x ∷ []) (seen ∷ replicate i seen)) ∙ ends.2 in
    let first : x ≡ ends.1 = ends_as 6 (suc i) front ends.0 x seen ends.1 (omega arith) line in
    let later : seen ≡ ends.1 = (same_end (front ++ x ∷ []) ends.0 i 5 seen ends.1 ends.2).1 in
    other (later ∙ sym first)

-- the levels end in the last one, of which six are waited for
ends_in_last : (m k : ℕ) (last : Level) (levels : List Level) → suc m + k ≡ 6 → 1 ≤ k →
    EndsInEqual 6 (levels ++ replicate k last) → (front : List Level) × (levels ≡ front ++ last ∷ [])
ends_in_last m k last levels six some has =
    let lines = has.2 ∙ ap (λ j. has.0 ++ replicate j has.1) (sym six) in
    let same : last ≡ has.1 = end_as k (suc m) levels has.0 last has.1 some lines in
    let front : levels ≡ has.0 ++ replicate (suc m) has.1 = before_end k (suc m) levels has.0 last has.1 lines in
    let others : List Level = has.0 ++ replicate m has.1 in
    (others, front ∙ push_run has.0 m has.1 ∙ ap (λ x. others ++ x ∷ []) (sym same))

-- fewer than six levels that differ from the last one don't end in six equal ones
too_short : (n : ℕ) (last seen : Level) (levels : List Level) → seen ≢ last → n < 6 → (n ≡ 0 → levels ≡ []) →
    EndsInEqual 6 (levels ++ replicate (6 - n) last) →
    (i : ℕ) → i < 5 → EndsInEqual 6 (levels ++ seen ∷ replicate i seen) → ⊥
too_short zero last seen levels other few none has i less ends =
    let long = six_long (levels ++ seen ∷ replicate i seen) ends in
    let all = length-append levels (seen ∷ replicate i seen) in
    let part = length-replicate i seen in
    let empty : length levels ≡ 0 = ap (λ (t : List Level). length t) (none refl) in
    omega arith
too_short (suc m) last seen levels other few none has i less ends =
    let is = ends_in_last m (6 - suc m) last levels (omega arith) (omega arith) has in
    let P : List Level → Type 0 = λ t. EndsInEqual 6 (t ++ seen ∷ replicate i seen) in
    no_mix is.0 last seen i other less (subst P is.1 ends)

-- another level: it is the first of its kind
wait_turns : (c : ContextValue) (n : ℕ) (last seen : Level) (bits : List Bit) → seen ≢ last →
    IsInPassiveFlag n last c bits → IsInPassiveFlag 1 seen c (bits ++ recessive_bit seen ∷ [])
wait_turns c n last seen bits other h =
    let few = h.few in
    let none = no_front_yet (EndsInEqual 6) h.levels (6 - n) last (omega arith) h.waits in
    let short = too_short n last seen h.levels other few h.none h.waits.holds in
    let P : List Level → Type 0 = λ t. IsFirst (EndsInEqual 6) t in
    let first = first_run (EndsInEqual 6) h.levels seen seen 5 none short (h.levels, seen, refl) in
    record {
      levels = h.levels ++ seen ∷ [];
      whole = receives_on bits h.levels (seen ∷ []) (h.levels ++ seen ∷ []) h.whole refl;
      few = omega arith;
      none = λ none. absurd (omega arith);
      waits = subst P (sym (append_assoc h.levels (seen ∷ []) (replicate 5 seen))) first;
    }

-- ---- one level more

-- like the last
passive_by : (t : Bool) (shift : Shift) (c now : ContextValue) (n : ℕ) (last seen : Level) (bits : List Bit) →
    nat_lt n 5 ≡ t →
    flag_level c ≡ Recessive → seen ≡ last → IsInPassiveFlag n last c bits →
    IsTurn shift c now AtFlag bits (recessive_bit seen)
    (if t then InPiece (StageInFlag (n + 1) seen) else Ended EndingFlag)
passive_by true shift c now n last seen bits few drives same h = (
  refl,
  waits_in_flag c (n + 1) seen (bits ++ recessive_bit seen ∷ []) drives
      (wait_goes c n (n + 1) last seen bits same (grind (arith, nat_tests)) refl h),
)
passive_by false shift c now n last seen bits most drives same h =
    wait_ends c n last seen bits drives same (grind (arith, nat_tests)) h

pub passive_more : (shift : Shift) (c now : ContextValue) (n : ℕ) (last seen : Level) (bits : List Bit) →
    flag_level c ≡ Recessive → seen ≡ last → IsInPassiveFlag n last c bits →
    IsTurn shift c now AtFlag bits (recessive_bit seen) (one_more n seen)
passive_more shift c now n last seen bits drives same h =
    passive_by (nat_lt n 5) shift c now n last seen bits refl drives same h

-- and another one
pub passive_other : (shift : Shift) (c now : ContextValue) (n : ℕ) (last seen : Level) (bits : List Bit) →
    flag_level c ≡ Recessive → seen ≢ last → IsInPassiveFlag n last c bits →
    IsTurn shift c now AtFlag bits (recessive_bit seen) (one_more 0 seen)
passive_other shift c now n last seen bits drives other h =
    (refl, waits_in_flag c 1 seen (bits ++ recessive_bit seen ∷ []) drives (wait_turns c n last seen bits other h))

-- ---- a flag that isn't finished: it goes on with levels like the last one

pub open_passive_flag : (n : ℕ) (last : Level) (c : ContextValue) (bits : List Bit) → flag_level c ≡ Recessive →
    IsInPassiveFlag n last c bits → IsUnfinished c AtFlag bits
open_passive_flag n last c bits drives h =
    let P : List Bit → Type 0 = λ t. Row c AtFlag t Flag AtDelimiter in
    let few = h.few in
    let left : 6 - n ≡ suc (5 - n) = omega arith in
    let line : List Level = h.levels ++ replicate (6 - n) last in
    let levels = ap (λ k. h.levels ++ replicate k last) (sym left) in
    let whole = receives_on bits h.levels (replicate (suc (5 - n)) last) line h.whole levels in
    record {
      piece = Flag;
      next = AtDelimiter;
      more = recessive_bit last;
      rest = recessive_bits (replicate (5 - n) last);
      lawful = subst P (sym whole) (flag_passive drives h.waits);
    }
