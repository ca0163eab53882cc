-- For how many bits a session goes by a plan.
use Rattle.std.proofs.Common.{◌≡◌, ◌<◌, ◌≤◌, ℕ, List, [], replicate, ap, ◌∙◌, All, Bool, arith, inl, inr}
use Rattle.std.specs.Prelude.{◌^◌, if◌then◌else◌}
use Rattle.std.proofs.lemmas.Bool.{lt-ltb}
use Rattle.std.proofs.lemmas.List.{length-replicate, get_or-replicate}
use Rattle.sja_journal.specs.BoundedHistories.{HistoryValue}
use Rattle.sja_plan.specs.Limits.{most_bits}
use Rattle.sja_plan.specs.Plan.{PlanValue}
use Rattle.sja_steps.specs.declared.strike.Strike.{Strike}
use Rattle.sja_session.specs.declared.session_room.SessionRoom.{SessionRoom}
use Rattle.sja_session.specs.Sessions.{plan_with}
use Rattle.sja_session.specs.Inside.Written.{IsBare, GoesBy, MayGoBy, beside_for}

-- with other bits and more strikes it has neither steps nor turns still
pub bare_with : (p : PlanValue) (bits : ℕ) (struck : List Strike) → IsBare p → IsBare (plan_with p bits struck)
bare_with p bits struck bare = ap (λ (q : PlanValue). plan_with q bits struck) bare

-- the same room for each
pub few_each : (nodes size : ℕ) → size ≤ 2 ^ 56 → All (λ (s : ℕ). s ≤ 2 ^ 56) (replicate nodes size)
few_each nodes size few k d less =
    let n = length-replicate nodes size in let there : k < nodes = omega (arith, less, n) in
    let is = get_or-replicate nodes k size d there in omega (arith, is, few)

-- a bit at least
pub one_bit : (p : PlanValue) (bits : ℕ) (room : SessionRoom) → MayGoBy p bits room → 1 ≤ p.bits → 1 ≤ bits
one_bit p bits room may one = elim may.bits [
  | inl own ↦ omega (arith, own, one)
  | inr more ↦ let far = more.0 in omega (arith, far)
]

-- for more bits than a plan may have it goes by one of version 3
pub rules_first : (p : PlanValue) (bits : ℕ) (room : SessionRoom) → MayGoBy p bits room → p.bits ≤ most_bits p.version →
    most_bits p.version < bits → p.version ≡ 3
rules_first p bits room may few far = elim may.bits [
  | inl own ↦ absurd (omega (arith, own, few, far))
  | inr more ↦ more.2
]

-- it holds strikes beside its plan where it has more bits than that
pub goes_first : (p : PlanValue) (bits : ℕ) (room : SessionRoom) (struck : HistoryValue Strike) → MayGoBy p bits room →
    p.bits ≤ most_bits p.version → struck.items ≡ [] → struck.room ≡ beside_for p bits → GoesBy p bits struck
goes_first p bits room struck may few none size = elim may.bits [
  | inl own ↦ inl (own, none)
  | inr more ↦ let far = more.0 in inr (more.0, more.1, size ∙ beside (omega (arith, few, far)))
]
  where
    beside : p.bits < bits → beside_for p bits ≡ 2 ^ 56
    beside less = ap (λ (b : Bool). if b then 2 ^ 56 else 0) (lt-ltb p.bits bits less)
