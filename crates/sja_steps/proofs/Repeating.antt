-- When a strike comes again, by division.
use Rattle.std.proofs.Common.{◌≡◌, ◌<◌, ◌*◌, ◌/◌, ◌%◌, ℕ, mul_comm, sym, ap, ◌∙◌, subst, arith}
use Rattle.std.proofs.Math.Nat.{div-add-mod, mul-mod_left, mul-div_cancel}
use Rattle.sja_steps.specs.declared.strike.Strike.{Strike}
use Rattle.sja_steps.specs.Striking.{IsRepeated}

-- it comes again where the bits between are a whole number of times, few enough
pub repeated_whole : (s : Strike) (later : ℕ) → later % s.every ≡ 0 → later / s.every < s.times → IsRepeated s later
repeated_whole s later whole few =
    let d = div-add-mod later s.every in
    let c : s.every * (later / s.every) ≡ later = let w = whole in omega (arith, d, w) in
    record { time = later / s.every; few = few; now = mul_comm (later / s.every) s.every ∙ c }

-- and, where some bits lie between its times, nowhere else
pub whole_repeated : (s : Strike) (later : ℕ) → 0 < s.every → IsRepeated s later →
    (later % s.every ≡ 0) × (later / s.every < s.times)
whole_repeated s later some h =
    let few = h.few in
    let count = ap (λ n. n / s.every) (sym h.now) ∙ mul-div_cancel h.time some in
    (ap (λ n. n % s.every) (sym h.now) ∙ mul-mod_left h.time s.every, subst (λ n. n < s.times) (sym count) few)
