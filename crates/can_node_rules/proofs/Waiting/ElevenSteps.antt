-- While bus-off stands each eleven recessive levels of bus integration take one from TEC.
use Rattle.std.proofs.Common.{◌≡◌, ◌+◌, ◌-◌, ◌<◌, ◌&&◌, ◌==◌, not, inl, inr, ℕ, zero, suc}
use Rattle.std.proofs.Common.{Bool, true, false, if◌then◌else◌, fold, List, [], ◌∷◌, ◌++◌, map}
use Rattle.std.proofs.Common.{replicate, length, refl, ap, sym, subst, ◌∙◌, arith, append_assoc}
use Rattle.std.proofs.lemmas.Bool.{cases_lt}
use Rattle.std.proofs.lemmas.Bool.Decides.{nat_tests}
use Rattle.std.proofs.lemmas.List.{append-nil, length-append, length-replicate}
use Rattle.std.proofs.lemmas.List.Sums.{fold_push}
use Rattle.can_levels.specs.declared.level.Level.{Level}
use Rattle.can_levels.specs.declared.level.Level.TheVariants.{Dominant, Recessive}
use Rattle.lemmas.proofs.Lists.{fronts, append-cancel}
use Rattle.can_node_rules.specs.Bits.{Bit, recessive_bit, recessive_bits, seen_of, IsFirst}
use Rattle.can_node_rules.specs.Context.{ContextValue}
use Rattle.can_node_rules.specs.Record.RecordEntry.{OneBit}
use Rattle.can_node_rules.specs.Pieces.Place.{AtIntegration}
use Rattle.can_node_rules.specs.Table.{EndsInEleven, Elevens}
use Rattle.can_node_rules.specs.Table.Elevens.{none_left, one_more}
use Rattle.can_node_rules.specs.Counting.{next_run, ends_eleven, integration_bit}
use Rattle.can_node_rules.specs.Effects.{along}
use Rattle.can_node_rules.proofs.Bits.DrivenAlike.{dominant-other}
use Rattle.can_node_rules.proofs.Bits.Seen.{seen-append}
use Rattle.can_node_rules.proofs.Waiting.Firsts.{ends_as}

-- one, or none
abbrev pub one_if : Bool → ℕ
one_if true = 1
one_if false = 0

-- how many elevens end among levels, after a run of so many
abbrev pub elevens_in : ℕ → List Level → ℕ
elevens_in r [] = 0
elevens_in r (x ∷ l) = one_if (ends_eleven r x) + elevens_in (next_run r x) l

-- ---- the steps of the counter

less_none : (c : ContextValue) → c ≡ record c { tec = c.tec - 0 }
less_none c = let e : c.tec ≡ c.tec - 0 = omega arith in ap (λ (n : ℕ). record c { tec = n }) e

-- one bit
bit_step : (c : ContextValue) (done : List Bit) (x : Level) (r : ℕ) → c.off ≡ true → c.listen ≡ false →
    fold next_run 0 (seen_of done) ≡ r →
    integration_bit c done (recessive_bit x) ≡ record c { tec = c.tec - one_if (ends_eleven r x) }
bit_step c done x r off speaks run =
    let test : ((c.off && not c.listen) && ends_eleven (fold next_run 0 (seen_of done)) x) ≡ ends_eleven r x =
    rw (off, speaks, run) refl in
    ap (λ t. if t then record c { tec = c.tec - 1 } else c) test ∙ by_test (ends_eleven r x)
  where
    by_test : (t : Bool) → (if t then record c { tec = c.tec - 1 } else c) ≡ record c { tec = c.tec - one_if t }
    by_test true = refl
    by_test false = less_none c

run_after : (done : List Bit) (x : Level) (r : ℕ) → fold next_run 0 (seen_of done) ≡ r →
    fold next_run 0 (seen_of (done ++ recessive_bit x ∷ [])) ≡ next_run r x
run_after done x r run = ap (λ l. fold next_run 0 l) (seen-append done (recessive_bit x ∷ []))
    ∙ fold_push next_run 0 (seen_of done) x ∙ ap (λ n. next_run n x) run

taken : (c : ContextValue) (a b : ℕ) → record c { tec = (c.tec - a) - b } ≡ record c { tec = c.tec - (a + b) }
taken c a b = let e : (c.tec - a) - b ≡ c.tec - (a + b) = omega arith in ap (λ (n : ℕ). record c { tec = n }) e

pub steps_in : (c : ContextValue) (done : List Bit) (r : ℕ) (l : List Level) → c.off ≡ true → c.listen ≡ false →
    fold next_run 0 (seen_of done) ≡ r →
    along c AtIntegration done (map OneBit (recessive_bits l)) ≡ record c { tec = c.tec - elevens_in r l }
steps_in c done r [] off speaks run = less_none c
steps_in c done r (x ∷ l) off speaks run =
    let d : ContextValue = record c { tec = c.tec - one_if (ends_eleven r x) } in
    ap (λ (k : ContextValue). along k AtIntegration (done ++ recessive_bit x ∷ []) (map OneBit (recessive_bits l)))
    (bit_step c done x r off speaks run)
    ∙ steps_in d (done ++ recessive_bit x ∷ []) (next_run r x) l off speaks (run_after done x r run)
    ∙ taken c (one_if (ends_eleven r x)) (elevens_in (next_run r x) l)

-- ---- the elevens

-- a front of equal levels is as many of them as it is long
front_of_run : (n : ℕ) (v : Level) (a b : List Level) → a ++ b ≡ replicate n v → a ≡ replicate (length a) v
front_of_run n v [] b e = refl
front_of_run zero v (x ∷ a) b e = absurd cc
front_of_run (suc n) v (x ∷ a) b e =
    let same : x ≡ v = cc in
    let rest : a ++ b ≡ replicate n v = cc in
    let more = front_of_run n v a b rest in cc

-- what follows a dominant level ends in eleven where the whole does
after_dominant : (r : ℕ) (m : List Level) → EndsInEleven (replicate r Recessive ++ Dominant ∷ m) → EndsInEleven m
after_dominant r m h =
    let first : List Level = replicate r Recessive ++ Dominant ∷ [] in
    let e : first ++ m ≡ h.0 ++ replicate 11 Recessive = append_assoc (replicate r Recessive) (Dominant ∷ []) m ∙ h.1 in
    elim (fronts first h.0 m (replicate 11 Recessive) e) [
      | inl longer ↦
          let whole : first ++ m ≡ first ++ (longer.0 ++ replicate 11 Recessive) =
          e ∙ ap (λ t. t ++ replicate 11 Recessive) longer.1 ∙ append_assoc first longer.0 (replicate 11 Recessive) in
          (longer.0, append-cancel first m (longer.0 ++ replicate 11 Recessive) whole)
      | inr shorter ↦ by_part shorter.0 shorter.1 (append-cancel h.0 (shorter.0 ++ m) (replicate 11 Recessive)
          (sym (append_assoc h.0 shorter.0 m) ∙ ap (λ t. t ++ m) (sym shorter.1) ∙ e))
    ]
  where
    by_part : (part : List Level) → replicate r Recessive ++ Dominant ∷ [] ≡ h.0 ++ part →
        part ++ m ≡ replicate 11 Recessive → EndsInEleven m
    by_part [] e run = ([], run)
    by_part (y ∷ part) e run =
        let all = front_of_run 11 Recessive (y ∷ part) m run in
        absurd (dominant-other (ends_as (suc (length part)) 0 (replicate r Recessive) h.0 Dominant Recessive Recessive
        (omega arith) (e ∙ ap (λ t. h.0 ++ t) all)))

-- one recessive level more in the run
run_more : (r : ℕ) (m : List Level) → replicate r Recessive ++ Recessive ∷ m ≡ replicate (suc r) Recessive ++ m
run_more zero m = refl
run_more (suc r) m = ap (λ t. Recessive ∷ t) (run_more r m)

-- a list that is the first to end in eleven has one at its end, and what follows begins anew
pub one_in : (r : ℕ) (m b : List Level) → r < 11 → IsFirst EndsInEleven (replicate r Recessive ++ m) →
    elevens_in r (m ++ b) ≡ suc (elevens_in 0 b)
one_in r [] b few h =
    let e = ap (λ (t : List Level). length t) (sym (append-nil (replicate r Recessive)) ∙ h.holds.1)
    ∙ length-append h.holds.0 (replicate 11 Recessive) in
    let long = length-replicate r Recessive in
    absurd (omega (e, long, few, arith))
one_in r (Dominant ∷ m) b few h =
    let anew : 0 + elevens_in 0 (m ++ b) ≡ elevens_in 0 (m ++ b) = omega arith in
    anew ∙ one_in 0 m b (omega arith) (record {
      holds = after_dominant r m h.holds;
      first = λ front rest e has.
          h.first (replicate r Recessive ++ Dominant ∷ front) rest
          (ap (λ t. replicate r Recessive ++ Dominant ∷ t) e
          ∙ sym (append_assoc (replicate r Recessive) (Dominant ∷ front) rest)) (
            replicate r Recessive ++ Dominant ∷ has.0,
            ap (λ t. replicate r Recessive ++ Dominant ∷ t) has.1
                ∙ sym (append_assoc (replicate r Recessive) (Dominant ∷ has.0) (replicate 11 Recessive)),
          );
    })
one_in r (Recessive ∷ m) b few h =
    let P : List Level → Type 0 = λ t. IsFirst EndsInEleven t in
    elim (cases_lt r 10) [
      | inl less ↦
          let no : (r == 10) ≡ false = grind (less, arith, nat_tests) in
          let more = one_in (suc r) m b (omega (less, arith)) (subst P (run_more r m) h) in
          let next : suc r ≡ r + 1 = omega arith in
          let zero_more : 0 + elevens_in (r + 1) (m ++ b) ≡ elevens_in (r + 1) (m ++ b) = omega arith in
          rw no (zero_more ∙ ap (λ n. elevens_in n (m ++ b)) (sym next) ∙ more)
      | inr most ↦
          let ten : r ≡ 10 = omega (few, most, arith) in
          let all : replicate r Recessive ++ Recessive ∷ m ≡ replicate 11 Recessive ++ m =
          run_more r m ∙ ap (λ n. replicate (suc n) Recessive ++ m) ten in
          let none : m ≡ [] = h.first (replicate 11 Recessive) m all ([], refl) in
          let one_more : 1 + elevens_in 0 b ≡ suc (elevens_in 0 b) = omega arith in
          rw (ten, none) one_more
    ]

pub counts_elevens : (n : ℕ) (l : List Level) → Elevens n l → elevens_in 0 l ≡ n
counts_elevens n l none_left = refl
counts_elevens n l (one_more {n = m} {a = a} {b = b} h more parts) =
    ap (λ t. elevens_in 0 t) parts ∙ one_in 0 a b (omega arith) h ∙ ap suc (counts_elevens m b more)

pub takes : (c : ContextValue) (n : ℕ) (l : List Level) → c.off ≡ true → c.listen ≡ false → Elevens n l →
    along c AtIntegration [] (map OneBit (recessive_bits l)) ≡ record c { tec = c.tec - n }
takes c n l off speaks h = steps_in c [] 0 l off speaks refl
    ∙ ap (λ (k : ℕ). record c { tec = c.tec - k }) (counts_elevens n l h)
