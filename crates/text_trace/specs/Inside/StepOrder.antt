-- The order of the steps that a driver did.
use Rattle.std.specs.Prelude.{◌≡◌, ◌<◌, ◌≤◌, ℕ, zero, suc, Bool, true, List, [], ◌∷◌, ⊤}
use Rattle.std.specs.Coded.{×_prop, →_prop, Unit-prop, le_prop}
use Rattle.sja_steps.specs.declared.step_record.StepRecord.{StepRecord}

-- each has as many bits before it as the one before it, or more, and the first one at least so many
abbrev pub Ascends : ℕ → List StepRecord → Type 0
Ascends least [] = ⊤
Ascends least (d ∷ done) = (least ≤ d.bits) × Ascends d.bits done

pub Ascends-prop : (least : ℕ) (done : List StepRecord) → IsProp (Ascends least done)
Ascends-prop least [] = Unit-prop
Ascends-prop least (d ∷ done) = ×_prop le_prop (Ascends-prop d.bits done)

-- where that is said of them
abbrev pub AscendIf : Bool → List StepRecord → Type 0
AscendIf in_order done = in_order ≡ true → Ascends 0 done

pub AscendIf-prop : (in_order : Bool) (done : List StepRecord) → IsProp (AscendIf in_order done)
AscendIf-prop in_order done = →_prop (Ascends-prop 0 done)

-- those before this place all have fewer bits before them than so many
abbrev pub ArePast : ℕ → ℕ → List StepRecord → Type 0
ArePast bits zero done = ⊤
ArePast bits (suc place) [] = ⊤
ArePast bits (suc place) (d ∷ done) = (d.bits < bits) × ArePast bits place done

pub ArePast-prop : (bits place : ℕ) (done : List StepRecord) → IsProp (ArePast bits place done)
ArePast-prop bits zero done = Unit-prop
ArePast-prop bits (suc place) [] = Unit-prop
ArePast-prop bits (suc place) (d ∷ done) = ×_prop le_prop (ArePast-prop bits place done)

-- the step at this place, if there is one, has so many bits before it, or more
abbrev pub IsNext : ℕ → ℕ → List StepRecord → Type 0
IsNext next zero [] = ⊤
IsNext next zero (d ∷ done) = next ≤ d.bits
IsNext next (suc place) [] = ⊤
IsNext next (suc place) (d ∷ done) = IsNext next place done

pub IsNext-prop : (next place : ℕ) (done : List StepRecord) → IsProp (IsNext next place done)
IsNext-prop next zero [] = Unit-prop
IsNext-prop next zero (d ∷ done) = le_prop
IsNext-prop next (suc place) [] = Unit-prop
IsNext-prop next (suc place) (d ∷ done) = IsNext-prop next place done
