-- What came of the parts of a list of trials.
use Rattle.std.proofs.Common.{◌≡◌, ℕ, ◌+◌, ◌*◌, ◌/◌, ◌%◌, ◌<◌, ◌≤◌, min, suc, List, [], ◌∷◌, length, take}
use Rattle.std.proofs.Common.{drop, get_or, refl, sym, ap, ◌∙◌, subst, arith, Result, Ok, map}
use mathlib.Core.Logic.{⊎_elim}
use native.Mathlib.Nat.{add-mul, one-mul, suc-mul, zero-mul}
use Rattle.std.proofs.lemmas.Bool.{cases_lt}
use Rattle.std.proofs.lemmas.Nat.{div-add-mod', mod_below}
use Rattle.std.specs.Fork.{slice_chunk}
use Rattle.std.proofs.lemmas.List.{drop-drop, length-drop}
use Rattle.sja_plan.specs.Plan.{PlanValue}
use Rattle.sja_sweep.specs.Errors.{TrialRunValue}
use Rattle.sja_sweep.specs.declared.sweep_fault.SweepFault.{SweepFault}
use Rattle.sja_sweep.specs.declared.trial_outcome.TrialOutcome.{TrialOutcome}
use Rattle.sja_sweep.specs.declared.trial.Trial.{Trial}
use Rattle.sja_sweep.specs.Inside.Reaching.{outcome_value}
use Rattle.sja_sweep.specs.Inside.Tried.{AreTried, IsPartTried, ArePartsTried}

-- a list without elements
no_trials : (ts : List Trial) → length ts ≤ 0 → ts ≡ []
no_trials [] few = refl
no_trials (t ∷ ts) few = absurd (omega (arith, few))

-- so many parts have all of a list
pub parts_cover : (count len size : ℕ) → 0 < size → count ≡ len / size + min 1 (len % size) → len ≤ count * size
parts_cover count len size some is =
    let whole : len / size * size + len % size ≡ len = div-add-mod' len size in
    let below : len % size < size = mod_below len size some in
    ⊎_elim
    (λ more. let one : count ≡ len / size + 1 = omega (arith, is, more) in
    let by = ap (λ n. n * size) one ∙ add-mul (len / size) 1 size in
    omega (arith, by, one-mul size, whole, below))
    (λ none. let same : count ≡ len / size = omega (arith, is, none) in
    let by = ap (λ n. n * size) same in omega (arith, by, none, whole))
    (cases_lt 0 (len % size))

-- the parts by their numbers are the parts one after another
pub parts_tried : {V : Type 0} (items : V → List TrialOutcome) (plan : PlanValue) (planned : TrialRunValue) (size : ℕ)
    (ts : List Trial) (rs : List (Result V SweepFault)) → length ts ≤ length rs * size →
    ((n : ℕ) (d : Result V SweepFault) → n < length rs →
    IsPartTried items plan planned (slice_chunk ts size n) (get_or rs n d)) →
    ArePartsTried items plan planned size ts rs
parts_tried items plan planned size ts [] long each = no_trials ts (omega (arith, long, zero-mul size))
parts_tried {V} items plan planned size ts (r ∷ rs) long each = (
  subst (λ (l : List Trial). IsPartTried items plan planned (take size l) r)
      (ap (λ (k : ℕ). drop k ts) (zero-mul size)) (each 0 r (omega arith)),
  parts_tried items plan planned size (drop size ts) rs
      (omega (arith, long, suc-mul (length rs) size, length-drop size ts))
      (λ n d less. subst (λ (l : List Trial). IsPartTried items plan planned (take size l) (get_or rs n d))
      (ap (λ (k : ℕ). drop k ts) (suc-mul n size) ∙ ap (λ (k : ℕ). drop k ts) (swap (n * size) size)
      ∙ sym (drop-drop (n * size) size ts))
      (each (suc n) d (omega (arith, less)))),
)
  where
    swap : (a b : ℕ) → a + b ≡ b + a
    swap a b = omega arith

-- what came of a part that was tried
pub ok_part : {V : Type 0} (items : V → List TrialOutcome) (plan : PlanValue) (planned : TrialRunValue)
    (ts : List Trial)
    (r : Result V SweepFault) (tolds : V) → r ≡ Ok tolds → IsPartTried items plan planned ts r →
    AreTried plan planned ts (map outcome_value (items tolds))
ok_part items plan planned ts r tolds is part = (subst (λ r. IsPartTried items plan planned ts r) is part).0
