-- Bus integration: what a level makes of it.
use Rattle.std.proofs.Common.{◌≡◌, ◌+◌, ◌-◌, ◌<◌, ◌≤◌, ℕ, zero, suc, fold, List, [], ◌∷◌}
use Rattle.std.proofs.Common.{◌++◌, replicate, refl, ap, sym, subst, ◌∙◌, arith, append_assoc}
use Rattle.std.proofs.lemmas.Bool.Decides.{nat_tests}
use Rattle.std.proofs.lemmas.List.{append-nil}
use Rattle.std.proofs.lemmas.List.Sums.{fold_push}
use Rattle.can_levels.specs.declared.level.Level.{Level}
use Rattle.can_levels.specs.declared.level.Level.TheVariants.{Dominant, Recessive}
use Rattle.can_node_rules.specs.Bits.{Bit, recessive_bit, recessive_bits, seen_of, IsFirst}
use Rattle.can_node_rules.specs.Context.{ContextValue, integration_count}
use Rattle.can_node_rules.specs.Counting.{next_run}
use Rattle.can_node_rules.specs.Pieces.Place.{AtIdle, AtIntegration}
use Rattle.can_node_rules.specs.Pieces.Piece.{Integration}
use Rattle.can_node_rules.specs.Table.{Row, EndsInEleven, Elevens}
use Rattle.can_node_rules.specs.Table.Elevens.{none_left, one_more}
use Rattle.can_node_rules.specs.Table.Row.{integration}
use Rattle.can_node_rules.specs.Cut.{IsUnfinished}
use Rattle.can_node_rules.specs.UnfinishedPieces.{IsIntegrating}
use Rattle.can_node_rules.proofs.Bits.DrivenAlike.{receives_on, dominant-other}
use Rattle.can_node_rules.proofs.Bits.Seen.{seen-append}
use Rattle.can_node_rules.proofs.Waiting.Firsts.{no_front_yet, one_on, last_on, first_run, ends_as}
use Rattle.can_node_rules.proofs.OneCut.Slices.{first_eleven}

-- ---- elevens one after the other

-- n elevens and then m
elevens_join : (n m : ℕ) (a b : List Level) → Elevens n a → Elevens m b → Elevens (n + m) (a ++ b)
elevens_join n m a b none_left k =
    let P : ℕ → Type 0 = λ j. Elevens j b in
    let same : m ≡ 0 + m = omega arith in
    subst P same k
elevens_join n m a b (one_more {n = i} {a = c} {b = d} h more parts) k =
    let P : ℕ → Type 0 = λ j. Elevens j (a ++ b) in
    let same : suc (i + m) ≡ suc i + m = omega arith in
    let lines : a ++ b ≡ c ++ (d ++ b) = ap (λ t. t ++ b) parts ∙ append_assoc c d b in
    subst P same (one_more h (elevens_join i m d b more k) lines)

-- one more at the end
pub elevens_push : (n : ℕ) (a b : List Level) → Elevens n a → IsFirst EndsInEleven b → Elevens (n + 1) (a ++ b)
elevens_push n a b h k = elevens_join n 1 a b h (one_more k none_left (sym (append-nil b)))

-- so many elevens of recessive levels alone
recessive_elevens : (n : ℕ) → (l : List Level) × Elevens n l
recessive_elevens zero = ([], none_left)
recessive_elevens (suc n) =
    let more = recessive_elevens n in
    (replicate 11 Recessive ++ more.0, one_more first_eleven more.1 refl)

-- ---- bits and levels

-- no bit came yet
pub integrates_from : (c : ContextValue) → 1 ≤ integration_count c → IsIntegrating (integration_count c) 0 c []
integrates_from c some = record {
  done = 0;
  front = [];
  begun = [];
  whole = refl;
  elevens = none_left;
  count = omega arith;
  some = some;
  few = omega arith;
  waits = first_eleven;
  counted = refl;
}

-- a level more changes the run at the end
run_on : (bits : List Bit) (run next : ℕ) (seen x : Level) → seen ≡ x → next ≡ next_run run x →
    fold next_run 0 (seen_of bits) ≡ run → fold next_run 0 (seen_of (bits ++ recessive_bit seen ∷ [])) ≡ next
run_on bits run next seen x same e counted =
    ap (λ l. fold next_run 0 l) (seen-append bits (recessive_bit seen ∷ [])) ∙ fold_push next_run 0 (seen_of bits) seen
    ∙ ap (λ n. next_run n seen) counted ∙ ap (λ v. next_run run v) same ∙ sym e

-- the bits with it
levels_on : (left run : ℕ) (seen x : Level) (c : ContextValue) (bits : List Bit) (h : IsIntegrating left run c bits) →
    seen ≡ x →
    bits ++ recessive_bit seen ∷ [] ≡ recessive_bits (h.front ++ (h.begun ++ x ∷ []))
levels_on left run seen x c bits h same =
    let line : (h.front ++ h.begun) ++ seen ∷ [] ≡ h.front ++ (h.begun ++ x ∷ []) =
    ap (λ v. (h.front ++ h.begun) ++ v ∷ []) same ∙ append_assoc h.front h.begun (x ∷ []) in
    receives_on bits (h.front ++ h.begun) (seen ∷ []) (h.front ++ (h.begun ++ x ∷ [])) h.whole line

-- after a dominant level eleven recessive ones are waited for
first_after_dominant : (l : List Level) (k : ℕ) → 1 ≤ k → IsFirst EndsInEleven (l ++ replicate k Recessive) →
    IsFirst EndsInEleven ((l ++ Dominant ∷ []) ++ replicate 11 Recessive)
first_after_dominant l k some h =
    let none = no_front_yet EndsInEleven l k Recessive some h in
    let line = append_assoc l (Dominant ∷ []) (replicate 11 Recessive) in
    let few : (i : ℕ) → i < 11 → EndsInEleven (l ++ Dominant ∷ replicate i Recessive) → ⊥ =
    λ i less ends. dominant-other (ends_as 11 i l ends.0 Dominant Recessive Recessive less ends.1) in
    let P : List Level → Type 0 = λ t. IsFirst EndsInEleven t in
    subst P (sym line) (first_run EndsInEleven l Dominant Recessive 11 none few (l ++ Dominant ∷ [], sym line))

-- a dominant level
pub integration_breaks : (left run : ℕ) (seen : Level) (c : ContextValue) (bits : List Bit) → seen ≡ Dominant →
    IsIntegrating left run c bits → IsIntegrating left 0 c (bits ++ recessive_bit seen ∷ [])
integration_breaks left run seen c bits level h =
    let less = h.few in
    record {
      done = h.done;
      front = h.front;
      begun = h.begun ++ Dominant ∷ [];
      whole = levels_on left run seen Dominant c bits h level;
      elevens = h.elevens;
      count = h.count;
      some = h.some;
      few = omega arith;
      waits = first_after_dominant h.begun (11 - run) (omega arith) h.waits;
      counted = run_on bits run 0 seen Dominant level refl h.counted;
    }

-- a recessive level, not the eleventh
pub integration_goes : (left run next : ℕ) (seen : Level) (c : ContextValue) (bits : List Bit) → seen ≡ Recessive →
    run < 10 →
    next ≡ run + 1 → IsIntegrating left run c bits → IsIntegrating left next c (bits ++ recessive_bit seen ∷ [])
integration_goes left run next seen c bits level less e h =
    let now : next ≡ next_run run Recessive = grind (arith, nat_tests) in
    record {
      done = h.done;
      front = h.front;
      begun = h.begun ++ Recessive ∷ [];
      whole = levels_on left run seen Recessive c bits h level;
      elevens = h.elevens;
      count = h.count;
      some = h.some;
      few = omega arith;
      waits = one_on EndsInEleven h.begun (11 - run) (11 - next) Recessive (omega arith) h.waits;
      counted = run_on bits run next seen Recessive level now h.counted;
    }

-- the eleventh, and all that came is one eleven more
integration_more : (left run : ℕ) (c : ContextValue) (bits : List Bit) (h : IsIntegrating left run c bits) → 10 ≤ run →
    Elevens (h.done + 1) (h.front ++ (h.begun ++ Recessive ∷ []))
integration_more left run c bits h most =
    let less = h.few in
    elevens_push h.done h.front (h.begun ++ Recessive ∷ []) h.elevens
    (last_on EndsInEleven h.begun (11 - run) Recessive (omega arith) h.waits)

-- another eleven is waited for, and none of it came
pub integration_again : (left run next none : ℕ) (seen : Level) (c : ContextValue) (bits : List Bit) →
    seen ≡ Recessive → 10 ≤ run → 1 < left → left ≡ next + 1 → none ≡ 0 → IsIntegrating left run c bits →
    IsIntegrating next none c (bits ++ recessive_bit seen ∷ [])
integration_again left run next none seen c bits level most many e anew h =
    let less = h.few in
    let count = h.count in
    let line : List Level = h.front ++ (h.begun ++ Recessive ∷ []) in
    let ten : run ≡ 10 = omega arith in
    let now : none ≡ next_run run Recessive = rw (ten, anew) refl in
    record {
      done = h.done + 1;
      front = line;
      begun = [];
      whole = levels_on left run seen Recessive c bits h level ∙ ap (λ l. recessive_bits l) (sym (append-nil line));
      elevens = integration_more left run c bits h most;
      count = omega arith;
      some = omega arith;
      few = omega arith;
      waits = rw anew first_eleven;
      counted = run_on bits run none seen Recessive level now h.counted;
    }

-- it was the last one
pub integration_ends : (left run : ℕ) (seen : Level) (c : ContextValue) (bits : List Bit) → seen ≡ Recessive →
    10 ≤ run →
    left ≤ 1 → IsIntegrating left run c bits → Row c AtIntegration (bits ++ recessive_bit seen ∷ []) Integration AtIdle
integration_ends left run seen c bits level most last h =
    let P : List Bit → Type 0 = λ t. Row c AtIntegration t Integration AtIdle in
    let line : List Level = h.front ++ (h.begun ++ Recessive ∷ []) in
    let Q : ℕ → Type 0 = λ n. Elevens n line in
    let some = h.some in
    let count = h.count in
    let all : h.done + 1 ≡ integration_count c = omega arith in
    let elevens = subst Q all (integration_more left run c bits h most) in
    subst P (sym (levels_on left run seen Recessive c bits h level)) (integration elevens)

-- ---- a bus integration that isn't finished

-- it goes on with recessive levels
pub open_integrating : (left run : ℕ) (c : ContextValue) (bits : List Bit) → IsIntegrating left run c bits →
    IsUnfinished c AtIntegration bits
open_integrating left run c bits h =
    let P : List Bit → Type 0 = λ t. Row c AtIntegration t Integration AtIdle in
    let less = h.few in
    let some = h.some in
    let count = h.count in
    let more : List Level = replicate (11 - run) Recessive in
    let others = recessive_elevens (left - 1) in
    let line : List Level = (h.front ++ (h.begun ++ more)) ++ others.0 in
    let Q : ℕ → Type 0 = λ n. Elevens n line in
    let all : (h.done + 1) + (left - 1) ≡ integration_count c = omega arith in
    let elevens = elevens_join (h.done + 1) (left - 1) (h.front ++ (h.begun ++ more)) others.0
    (elevens_push h.done h.front (h.begun ++ more) h.elevens h.waits) others.1 in
    let one : suc (10 - run) ≡ 11 - run = omega arith in
    let same : (h.front ++ h.begun) ++ (replicate (suc (10 - run)) Recessive ++ others.0) ≡ line =
    ap (λ k. (h.front ++ h.begun) ++ (replicate k Recessive ++ others.0)) one ∙ simp append_assoc in
    let whole = receives_on bits (h.front ++ h.begun) (replicate (suc (10 - run)) Recessive ++ others.0) line h.whole
    same in
    record {
      piece = Integration;
      next = AtIdle;
      more = recessive_bit Recessive;
      rest = recessive_bits (replicate (10 - run) Recessive ++ others.0);
      lawful = subst P (sym whole) (integration (subst Q all elevens));
    }
