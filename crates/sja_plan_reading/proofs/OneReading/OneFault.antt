-- Bytes have one first fault at most, and none where they are a plan.
use Rattle.std.proofs.Common.{◌≡◌, ◌≢◌, ◌∙◌, ◌<◌, ◌≤◌, ℕ, Some, None, List, length, refl, sym, subst, arith, IsUtf8}
use Rattle.std.proofs.Common.{◌⊎◌, inl, inr}
use Rattle.toml.specs.Data.{Members}
use Rattle.toml.specs.Parse.{parse_document}
use Rattle.sja_plan_reading.specs.Document.{DocumentValue, HasShape, IsMisshapen}
use Rattle.sja_plan.specs.Plan.{PlanValue}
use Rattle.sja_plan_reading.specs.DocumentLimits.{most_bytes}
use Rattle.sja_plan_reading.specs.Faults.{IsText, Says, IsPlanOf, IsDocumentFault, IsFirstFault}
use Rattle.sja_plan_reading.specs.declared.plan_fault.PlanFault.{PlanFault}
use Rattle.sja_plan_reading.specs.declared.plan_fault.PlanFault.TheVariants.{TooLong, NotText, Toml, Key, Version, Bits}
use Rattle.sja_plan_reading.specs.declared.plan_fault.PlanFault.TheVariants.{NodeCount, StepCount, Step, TurnCount}
use Rattle.sja_plan_reading.specs.declared.plan_fault.PlanFault.TheVariants.{Turn, StrikeCount, Strike, Memory}
use Rattle.sja_plan_reading.proofs.OneReading.DocumentFaults.{one_document_fault, no_document_fault}
use Rattle.sja_plan_reading.proofs.OneReading.OnePlan.{one_document}

-- the faults that are found before a document says anything
data Early (bytes : List ℕ) : PlanFault → Type 0 where
  too_long : most_bytes bytes < length bytes → Early bytes TooLong
  not_text : length bytes ≤ most_bytes bytes → ¬ IsUtf8 bytes → Early bytes NotText
  no_toml : IsText bytes → parse_document bytes ≡ None → Early bytes Toml
  no_keys : (ms : Members) → IsText bytes → parse_document bytes ≡ Some ms → IsMisshapen ms → Early bytes Key

not_both : (bytes : List ℕ) (ms : Members) → parse_document bytes ≡ None → parse_document bytes ≡ Some ms → ⊥
not_both bytes ms none some = let e : None ≡ Some ms = sym none ∙ some in absurd (cc)

-- then the document says nothing
early_says_nothing : (bytes : List ℕ) (f : PlanFault) (d : DocumentValue) → Early bytes f → ¬ Says bytes d
early_says_nothing bytes f d (too_long long) = λ says. omega (arith, long, says.1.0)
early_says_nothing bytes f d (not_text few bad) = λ says. bad says.1.1
early_says_nothing bytes f d (no_toml text none) = λ says. not_both bytes says.0 none says.2
early_says_nothing bytes f d (no_keys ms text some bad) = λ says.
    let same : says.0 ≡ ms = cc in bad d (subst (λ (m : Members). HasShape m d) same says.3)

one_early : (bytes : List ℕ) (e f : PlanFault) → Early bytes e → Early bytes f → e ≡ f
one_early bytes e f (too_long a) (too_long b) = refl
one_early bytes e f (too_long a) (not_text b c) = absurd (omega arith)
one_early bytes e f (too_long a) (no_toml b c) = absurd (omega (arith, b.0))
one_early bytes e f (too_long a) (no_keys ms b c q) = absurd (omega (arith, b.0))
one_early bytes e f (not_text a b) (too_long c) = absurd (omega arith)
one_early bytes e f (not_text a b) (not_text c q) = refl
one_early bytes e f (not_text a b) (no_toml c q) = absurd (b c.1)
one_early bytes e f (not_text a b) (no_keys ms c q r) = absurd (b c.1)
one_early bytes e f (no_toml a b) (too_long c) = absurd (omega (arith, a.0))
one_early bytes e f (no_toml a b) (not_text c q) = absurd (q a.1)
one_early bytes e f (no_toml a b) (no_toml c q) = refl
one_early bytes e f (no_toml a b) (no_keys ms c q r) = absurd (not_both bytes ms b q)
one_early bytes e f (no_keys ms a b c) (too_long q) = absurd (omega (arith, a.0))
one_early bytes e f (no_keys ms a b c) (not_text q r) = absurd (r a.1)
one_early bytes e f (no_keys ms a b c) (no_toml q r) = absurd (not_both bytes ms r b)
one_early bytes e f (no_keys ms a b c) (no_keys other q r t) = refl

-- a fault is found before the document says anything, or of what it says
found : (bytes : List ℕ) (f : PlanFault) → f ≢ Memory → IsFirstFault bytes f →
    Early bytes f ⊎ ((d : DocumentValue) × Says bytes d × IsDocumentFault d f)
found bytes TooLong m h = inl (too_long h)
found bytes NotText m h = inl (not_text h.0 h.1)
found bytes Toml m h = inl (no_toml h.0 h.1)
found bytes Key m h = inl (no_keys h.0 h.1 h.2 h.3)
found bytes Memory m h = absurd (m refl)
found bytes Version m h = inr h
found bytes Bits m h = inr h
found bytes NodeCount m h = inr h
found bytes StepCount m h = inr h
found bytes (Step node number) m h = inr h
found bytes TurnCount m h = inr h
found bytes (Turn number) m h = inr h
found bytes StrikeCount m h = inr h
found bytes (Strike number) m h = inr h

-- bytes have one first fault at most, but for refused memory
pub one_fault : (bytes : List ℕ) (e f : PlanFault) → e ≢ Memory → f ≢ Memory → IsFirstFault bytes e →
    IsFirstFault bytes f → e ≡ f
one_fault bytes e f m n h k = by_both (found bytes e m h) (found bytes f n k)
  where
    by_both : Early bytes e ⊎ ((d : DocumentValue) × Says bytes d × IsDocumentFault d e) →
        Early bytes f ⊎ ((d : DocumentValue) × Says bytes d × IsDocumentFault d f) → e ≡ f
    by_both (inl a) (inl b) = one_early bytes e f a b
    by_both (inl a) (inr (d, says, b)) = absurd (early_says_nothing bytes e d a says)
    by_both (inr (d, says, a)) (inl b) = absurd (early_says_nothing bytes f d b says)
    by_both (inr (d, says, a)) (inr (o, other, b)) =
        one_document_fault d e f m n a
        (subst (λ (x : DocumentValue). IsDocumentFault x f) (one_document bytes o d other says) b)

-- nor do its bytes
pub no_fault : (bytes : List ℕ) (p : PlanValue) (f : PlanFault) → f ≢ Memory → IsPlanOf bytes p → ¬ IsFirstFault bytes f
no_fault bytes p f m (d, says, plan) = λ h. by_kind (found bytes f m h)
  where
    by_kind : Early bytes f ⊎ ((d : DocumentValue) × Says bytes d × IsDocumentFault d f) → ⊥
    by_kind (inl a) = early_says_nothing bytes f d a says
    by_kind (inr (o, other, b)) = no_document_fault d p f m plan
        (subst (λ (x : DocumentValue). IsDocumentFault x f) (one_document bytes o d other says) b)
