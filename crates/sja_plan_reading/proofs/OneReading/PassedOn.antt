-- Faults that are passed on.
use Rattle.std.proofs.Common.{◌≡◌, ◌⊎◌, List, ℕ, Some, false, inl, inr, sym, subst}
use Rattle.toml.specs.Data.{Members}
use Rattle.toml.specs.Parse.{parse_document}
use Rattle.sja_plan_reading.specs.Document.{DocumentValue, HasShape, IsMisshapen}
use Rattle.sja_plan_reading.specs.Faults.{IsFirstFault, IsDocumentFault, IsText}
use Rattle.sja_plan_reading.specs.PlacedPlans.{IsPlacedFault}
use Rattle.sja_plan_reading.proofs.Parts.Items.{plain_fault, plain_plan}
use Rattle.sja_plan_reading.specs.declared.plan_fault.PlanFault.{PlanFault}
use Rattle.sja_plan_reading.specs.declared.plan_fault.PlanFault.TheVariants.{TooLong, NotText, Toml, Key, Version, Bits}
use Rattle.sja_plan_reading.specs.declared.plan_fault.PlanFault.TheVariants.{NodeCount, StepCount, Step, TurnCount}
use Rattle.sja_plan_reading.specs.declared.plan_fault.PlanFault.TheVariants.{Turn, StrikeCount, Strike, Memory}

-- the document has no plan's shape, or memory was refused
pub shape_fault : (bytes : List ℕ) (ms : Members) (e : PlanFault) → IsText bytes → parse_document bytes ≡ Some ms →
    (e ≡ Memory) ⊎ ((e ≡ Key) × IsMisshapen ms) → IsFirstFault bytes e
shape_fault bytes ms e t p (inl h) = subst (IsFirstFault bytes) (sym h) t
shape_fault bytes ms e t p (inr h) = subst (IsFirstFault bytes) (sym h.0) (ms, t, p, h.1)

-- what the document says is no plan, or memory was refused
pub document_fault : (bytes : List ℕ) (ms : Members) (d : DocumentValue) (e : PlanFault) → IsText bytes →
    parse_document bytes ≡ Some ms → HasShape ms d → IsDocumentFault d e → IsFirstFault bytes e
document_fault bytes ms d TooLong t p s h = absurd h
document_fault bytes ms d NotText t p s h = absurd h
document_fault bytes ms d Toml t p s h = absurd h
document_fault bytes ms d Key t p s h = absurd h
document_fault bytes ms d Memory t p s h = t
document_fault bytes ms d Version t p s h = (d, (ms, t, p, s), h)
document_fault bytes ms d Bits t p s h = (d, (ms, t, p, s), h)
document_fault bytes ms d NodeCount t p s h = (d, (ms, t, p, s), h)
document_fault bytes ms d StepCount t p s h = (d, (ms, t, p, s), h)
document_fault bytes ms d (Step node number) t p s h = (d, (ms, t, p, s), h)
document_fault bytes ms d TurnCount t p s h = (d, (ms, t, p, s), h)
document_fault bytes ms d (Turn number) t p s h = (d, (ms, t, p, s), h)
document_fault bytes ms d StrikeCount t p s h = (d, (ms, t, p, s), h)
document_fault bytes ms d (Strike number) t p s h = (d, (ms, t, p, s), h)

-- the same where no strike may name a place
pub plain_document_fault : (bytes : List ℕ) (ms : Members) (d : DocumentValue) (e : PlanFault) → IsText bytes →
    parse_document bytes ≡ Some ms → HasShape ms d → IsPlacedFault false d e → IsFirstFault bytes e
plain_document_fault bytes ms d e t p s h = document_fault bytes ms d e t p s (plain_fault d e h)

-- all, for whoever passes a fault on
pub ruleset passed_on = (shape_fault, plain_document_fault, plain_plan)
