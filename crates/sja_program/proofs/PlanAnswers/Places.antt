-- What is refused and said where a strike by place is at no bit.
use Rattle.std.proofs.Common.{◌≡◌, ◌++◌, List, ℕ, Bool, Option, Result, Ok, Err, IfOk, false, true, refl}
use Rattle.std.specs.Prelude.{nat_lt, if◌then◌else◌}
use Rattle.sja_plan_reading.specs.DocumentLimits.{begins_by_bytes, most_bytes}
use Rattle.sja_placed_strikes.specs.PlanRead.{IsReadFault}
use Rattle.sja_placed_strikes.specs.declared.place_fault.PlaceFault.TheVariants.{NoPlace}
use Rattle.sja_placed_strikes.specs.declared.read_fault.ReadFault.TheVariants.{Place, Plan}
use Rattle.sja_plan_reading.specs.declared.plan_fault.PlanFault.{PlanFault}
use Rattle.sja_plan_reading.specs.declared.plan_fault.PlanFault.TheVariants.{Memory}
use Rattle.sja_check.specs.Lines.{IsBrief}
use Rattle.text_codec.specs.Refusal.{refusal_line}
use Rattle.text_codec.specs.declared.command_refusal.CommandRefusal.{CommandRefusal}
use Rattle.text_codec.specs.declared.command_refusal.CommandRefusal.TheVariants as refusal
use Rattle.sja_program.specs.Run.{MissesPlace, OfPlaced, RefusesRunPlan}
use Rattle.sja_program.specs.Check.{IsExplainable, IsExplained}

-- the run has no place of a strike, whatever frames it has
pub no_place : (bytes : List ℕ) (number frames : ℕ) (last : Option ℕ) →
    IsReadFault bytes (Place (NoPlace number frames last)) → OfPlaced bytes (MissesPlace number)
no_place bytes number frames last (p, placed, are, none) = (p, placed, are, (frames, last, none))

-- where that is told in one line
pub one_line : (bytes : List ℕ) (number frames : ℕ) (last : Option ℕ) →
    IsReadFault bytes (Place (NoPlace number frames last)) → begins_by_bytes bytes ≡ false →
    RefusesRunPlan bytes (refusal.Place number)
one_line bytes number frames last is plain = (no_place bytes number frames last is, plain)

-- a document may be longer where it says version 3 before all other keys
longer : (raw : Bool) → nat_lt 65536 (if raw then 16777216 else 65536) ≡ raw
longer true = refl
longer false = refl

pub by_bytes : (bytes : List ℕ) → nat_lt 65536 (most_bytes bytes) ≡ begins_by_bytes bytes
by_bytes bytes = longer (begins_by_bytes bytes)

-- what is explained is explained by these words
pub is_explained : (bytes text words : List ℕ) (r : CommandRefusal) → IsExplainable bytes r →
    text ≡ refusal_line r ++ words → IsBrief words → IsExplained bytes text
is_explained bytes text words r why is brief = (r, words, why, is, brief)

-- the first fault of bytes, which is no refused memory, where there was memory for the words
pub plan_explained : {T E : Type 0} (items : T → List ℕ) (result : Result T E) (fault : PlanFault) →
    ¬ (fault ≡ Memory) →
    IfOk result (λ t. (words : List ℕ) × (items t ≡ refusal_line (refusal.Plan fault) ++ words) × IsBrief words) →
    IfOk result (λ t. (held : List ℕ) → IsReadFault held (Plan fault) → IsExplained held (items t))
plan_explained items (Ok t) fault named h = λ held is. (refusal.Plan fault, h.0, (named, is), h.1, h.2)
plan_explained items (Err e) fault named h = tt

pub ruleset places = (no_place, one_line, is_explained)
