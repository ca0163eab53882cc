-- What is wrong with a bit for a transmitter, or what makes it right.
use Rattle.std.proofs.Common.{◌≡◌, ◌≢◌, ◌+◌, Bool, true, false, ℕ, Option, Some}
use Rattle.std.proofs.Common.{None, is_some, List, length, refl, sym, subst}
use Rattle.can_levels.specs.declared.level.Level.{Level}
use Rattle.can_levels.specs.declared.level.Level.TheVariants.{Dominant, Recessive}
use Rattle.can_levels.specs.Places.{place_code, is_early_stuff}
use Rattle.can_node_rules.specs.declared.cause.Cause.{Cause}
use Rattle.can_node_rules.specs.declared.cause.Cause.TheVariants.{Bit as BitError, Stuff as StuffError, Ack as AckError}
use Rattle.can_node_rules.specs.declared.request.Request.{Request}
use Rattle.can_node_rules.specs.Bits.{Bit, dominant_bit, recessive_bit, seen_of}
use Rattle.can_node_rules.specs.Counting.{lost_by}
use Rattle.can_node_rules.specs.Frames.{AckFits, Fails}
use Rattle.can_node_rules.specs.Frames.Fails.{no_ack, stuff_bit, unseen, overdriven}
use Rattle.can_node_rules.specs.TransmitterCauses.{cause_of_bit, kind_of}

-- an option that isn't some is none
none_of : (o : Option ℕ) → false ≡ is_some o → o ≡ None
none_of None h = refl
none_of (Some n) h = let wrong : false ≡ true = h in cc

-- and one that is has a number
some_of : (o : Option ℕ) → true ≡ is_some o → (n : ℕ) × (o ≡ Some n)
some_of None h = absurd (let wrong : true ≡ false = h in cc)
some_of (Some n) h = (n, refl)

-- where a cause is found arbitration isn't lost, and it is a transmitter's fault
pub cause_fails : (request : Request) (part : List Level) (before : List Bit) (driven seen : Level)
    (self_test slot early lost : Bool) (cause : Cause) →
    (slot ≡ true → length before ≡ length part + 1) → (length before ≡ length part + 1 → slot ≡ true) →
    early ≡ is_early_stuff request.frame.ext (seen_of before) →
    lost ≡ is_some (lost_by (Some request) (seen_of before) driven seen) →
    cause_of_bit driven seen (kind_of slot early lost) self_test ≡ Some cause →
    (lost ≡ false) × Fails self_test request.frame.ext part before (record { driven = driven; seen = seen }) cause
cause_fails request part before Dominant Dominant self_test slot early lost cause due only at losing e =
    absurd (let wrong : None ≡ Some cause = e in cc)
cause_fails request part before Dominant Recessive self_test slot early lost cause due only at losing e =
    let P : Cause → Type 0 = λ k. Fails self_test request.frame.ext part before (dominant_bit Recessive) k in
    let same : BitError ≡ cause = cc in
    (losing, subst P same unseen)
cause_fails request part before Recessive Recessive true true early lost cause due only at losing e =
    absurd (let wrong : None ≡ Some cause = e in cc)
cause_fails request part before Recessive Recessive false true early lost cause due only at losing e =
    let P : Cause → Type 0 = λ k. Fails false request.frame.ext part before (recessive_bit Recessive) k in
    let same : AckError ≡ cause = cc in
    (losing, subst P same (no_ack refl (due refl)))
cause_fails request part before Recessive Recessive self_test false early true cause due only at losing e =
    absurd (let wrong : None ≡ Some cause = e in cc)
cause_fails request part before Recessive Recessive self_test false true false cause due only at losing e =
    absurd (let wrong : None ≡ Some cause = e in cc)
cause_fails request part before Recessive Recessive self_test false false false cause due only at losing e =
    absurd (let wrong : None ≡ Some cause = e in cc)
cause_fails request part before Recessive Dominant self_test true early lost cause due only at losing e =
    absurd (let wrong : None ≡ Some cause = e in cc)
cause_fails request part before Recessive Dominant self_test false early true cause due only at losing e =
    absurd (let wrong : None ≡ Some cause = e in cc)
cause_fails request part before Recessive Dominant self_test false true false cause due only at losing e =
    let P : Cause → Type 0 = λ k. Fails self_test request.frame.ext part before (recessive_bit Dominant) k in
    let same : StuffError ≡ cause = cc in
    (refl, subst P same (stuff_bit (sym at)))
cause_fails request part before Recessive Dominant self_test false false false cause due only at losing e =
    let P : Cause → Type 0 = λ k. Fails self_test request.frame.ext part before (recessive_bit Dominant) k in
    let same : BitError ≡ cause = cc in
    let other : length before ≢ length part + 1 = λ here. (let wrong : false ≡ true = only here in cc) in
    (refl, subst P same (overdriven other (sym at) (none_of (place_code request.frame.ext (seen_of before)) losing)))

-- where none is found arbitration is lost, or the level fits the ACK slot, or it is seen as it is driven
pub data IsFine (ext : Bool) (before : List Bit) (driven seen : Level) (self_test slot : Bool) : Bool → Type 0 where
  loses : (code : ℕ) → driven ≡ Recessive → seen ≡ Dominant → place_code ext (seen_of before) ≡ Some code →
      IsFine ext before driven seen self_test slot true
  fits_slot : slot ≡ true → AckFits self_test seen → IsFine ext before driven seen self_test slot false
  is_seen : slot ≡ false → driven ≡ seen → IsFine ext before driven seen self_test slot false

-- a dominant level fits it in any case
pub dominant_fits : (self_test : Bool) → AckFits self_test Dominant
dominant_fits true = tt
dominant_fits false = refl

pub none_fine : (request : Request) (before : List Bit) (driven seen : Level) (self_test slot early lost : Bool) →
    lost ≡ is_some (lost_by (Some request) (seen_of before) driven seen) →
    cause_of_bit driven seen (kind_of slot early lost) self_test ≡ None →
    IsFine request.frame.ext before driven seen self_test slot lost
none_fine request before Dominant Dominant self_test true early false losing e =
    fits_slot refl (dominant_fits self_test)
none_fine request before Dominant Dominant self_test false early false losing e = is_seen refl refl
none_fine request before Dominant Dominant self_test slot early true losing e =
    absurd (let wrong : true ≡ false = losing in cc)
none_fine request before Dominant Recessive self_test slot early lost losing e =
    absurd (let wrong : Some BitError ≡ None = e in cc)
none_fine request before Recessive Recessive self_test slot early true losing e =
    absurd (let wrong : true ≡ false = losing in cc)
none_fine request before Recessive Recessive true true early false losing e = fits_slot refl tt
none_fine request before Recessive Recessive false true early false losing e =
    absurd (let wrong : Some AckError ≡ None = e in cc)
none_fine request before Recessive Recessive self_test false early false losing e = is_seen refl refl
none_fine request before Recessive Dominant self_test slot early true losing e =
    let (code, some) = some_of (place_code request.frame.ext (seen_of before)) losing in
    loses code refl refl some
none_fine request before Recessive Dominant self_test true early false losing e =
    fits_slot refl (dominant_fits self_test)
none_fine request before Recessive Dominant self_test false true false losing e =
    absurd (let wrong : Some StuffError ≡ None = e in cc)
none_fine request before Recessive Dominant self_test false false false losing e =
    absurd (let wrong : Some BitError ≡ None = e in cc)
