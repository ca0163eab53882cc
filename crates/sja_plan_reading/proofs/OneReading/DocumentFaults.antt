-- What a document says has one first fault at most, and none where it is a plan.
use Rattle.std.proofs.Common.{◌≡◌, ◌≢◌, ◌∙◌, ◌<◌, ◌≤◌, ℕ, zero, suc, List, length, refl, sym, ap, ap₂, subst, arith}
use Rattle.std.proofs.Common.{◌⊎◌, inl, inr}
use Rattle.std.proofs.lemmas.Bool.{cases_lt, cases_order}
use Rattle.std.specs.List.{AllZip}
use Rattle.sja_steps.specs.declared.strike.Strike.{Strike as StrikeValue}
use Rattle.sja_plan_reading.specs.StepTexts.{SaysStep}
use Rattle.sja_plan_reading.specs.TurnTexts.{SaysTurn}
use Rattle.sja_plan_reading.specs.StrikeTexts.{SaysStrike}
use Rattle.sja_plan_reading.specs.Texts.{IsFirstBad, IsFirstBadIn}
use Rattle.sja_plan_reading.specs.Document.{DocumentValue}
use Rattle.sja_plan.specs.Plan.{PlanValue}
use Rattle.sja_plan.specs.Limits.{most_bits}
use Rattle.sja_plan_reading.specs.Checks.{SaysPlan, version_of, HasVersion, HasBits, HasNodes, HasFewSteps}
use Rattle.sja_plan_reading.specs.Checks.{HasSteps, HasFewTurns, HasTurns, HasFewStrikes}
use Rattle.sja_plan_reading.specs.Faults.{IsDocumentFault}
use Rattle.sja_plan_reading.specs.declared.plan_fault.PlanFault.{PlanFault}
use Rattle.sja_plan_reading.specs.declared.plan_fault.PlanFault.TheVariants.{TooLong, NotText, Toml, Key, Version, Bits}
use Rattle.sja_plan_reading.specs.declared.plan_fault.PlanFault.TheVariants.{NodeCount, StepCount, Step, TurnCount}
use Rattle.sja_plan_reading.specs.declared.plan_fault.PlanFault.TheVariants.{Turn, StrikeCount, Strike, Memory}
use Rattle.sja_plan_reading.proofs.PlanLimits.OfDocuments.{version_is}
use Rattle.sja_plan_reading.proofs.OneReading.FirstBad.{SameNumbers, bad_says_nothing, bad_lists_say_nothing, one_bad}
use Rattle.sja_plan_reading.proofs.OneReading.FirstBad.{one_bad_in}

-- the check of what a document says with this number, from 0
abbrev Passes : ℕ → DocumentValue → Type 0
Passes zero d = HasVersion d
Passes (suc zero) d = HasBits d
Passes (suc (suc zero)) d = HasNodes d
Passes (suc (suc (suc zero))) d = HasFewSteps d
Passes (suc (suc (suc (suc zero)))) d = HasSteps d
Passes (suc (suc (suc (suc (suc zero))))) d = HasFewTurns d
Passes (suc (suc (suc (suc (suc (suc zero)))))) d = HasTurns d
Passes (suc (suc (suc (suc (suc (suc (suc zero))))))) d = HasFewStrikes d
Passes n d = (strikes : List StrikeValue) × AllZip (SaysStrike (length d.nodes)) d.faults strikes

-- all checks below this number pass
abbrev AllBefore : ℕ → DocumentValue → Type 0
AllBefore zero d = Unit {0}
AllBefore (suc zero) d = Passes 0 d
AllBefore (suc (suc n)) d = AllBefore (suc n) d × Passes (suc n) d

passes_at : (i n : ℕ) (d : DocumentValue) → i < n → AllBefore n d → Passes i d
passes_at i zero d below h = absurd (omega arith)
passes_at zero (suc zero) d below h = h
passes_at (suc i) (suc zero) d below h = absurd (omega arith)
passes_at i (suc (suc n)) d below h = by_order (λ less. passes_at i (suc n) d less h.0) (cases_lt i (suc n))
  where
    by_order : (i < suc n → Passes i d) → (i < suc n) ⊎ (suc n ≤ i) → Passes i d
    by_order earlier (inl less) = earlier less
    by_order earlier (inr more) = let is : suc n ≡ i = omega arith in subst (λ k. Passes k d) is h.1

-- the number of a fault's check, and the fault's own numbers
abbrev check_of : PlanFault → ℕ
check_of Version = 0
check_of Bits = 1
check_of NodeCount = 2
check_of StepCount = 3
check_of (Step node number) = 4
check_of TurnCount = 5
check_of (Turn number) = 6
check_of StrikeCount = 7
check_of (Strike number) = 8
check_of TooLong = 9
check_of NotText = 9
check_of Toml = 9
check_of Key = 9
check_of Memory = 9

before_fault : (d : DocumentValue) (f : PlanFault) → f ≢ Memory → IsDocumentFault d f → AllBefore (check_of f) d
before_fault d Version m h = tt
before_fault d Bits m h = h.0
before_fault d NodeCount m h = h.0
before_fault d StepCount m h = h.0
before_fault d (Step node number) m h = h.0
before_fault d TurnCount m h = h.0
before_fault d (Turn number) m h = h.0
before_fault d StrikeCount m h = h.0
before_fault d (Strike number) m h = h.0
before_fault d TooLong m h = absurd h
before_fault d NotText m h = absurd h
before_fault d Toml m h = absurd h
before_fault d Key m h = absurd h
before_fault d Memory m h = absurd (m refl)

fails : (d : DocumentValue) (f : PlanFault) → f ≢ Memory → IsDocumentFault d f → ¬ Passes (check_of f) d
fails d Version m h = h
fails d Bits m h = h.1
fails d NodeCount m h = h.1
fails d StepCount m h = h.1
fails d (Step node number) m h = λ s. bad_lists_say_nothing (SaysStep (version_of d)) d.nodes node number h.1 s.0 s.1
fails d TurnCount m h = h.1
fails d (Turn number) m h = λ s. bad_says_nothing (SaysTurn (version_of d) (length d.nodes)) d.turns number h.1 s.0 s.1
fails d StrikeCount m h = h.1
fails d (Strike number) m h = λ s. bad_says_nothing (SaysStrike (length d.nodes)) d.faults number h.1 s.0 s.1
fails d TooLong m h = absurd h
fails d NotText m h = absurd h
fails d Toml m h = absurd h
fails d Key m h = absurd h
fails d Memory m h = absurd (m refl)

-- a fault's own numbers, and the fault of a check with these numbers
abbrev first_of : PlanFault → ℕ
first_of (Step node number) = node
first_of (Turn number) = number
first_of (Strike number) = number
first_of f = 0

abbrev second_of : PlanFault → ℕ
second_of (Step node number) = number
second_of f = 0

abbrev fault_of : ℕ → ℕ → ℕ → PlanFault
fault_of zero a b = Version
fault_of (suc zero) a b = Bits
fault_of (suc (suc zero)) a b = NodeCount
fault_of (suc (suc (suc zero))) a b = StepCount
fault_of (suc (suc (suc (suc zero)))) a b = Step a b
fault_of (suc (suc (suc (suc (suc zero))))) a b = TurnCount
fault_of (suc (suc (suc (suc (suc (suc zero)))))) a b = Turn a
fault_of (suc (suc (suc (suc (suc (suc (suc zero))))))) a b = StrikeCount
fault_of n a b = Strike a

rebuilt : (d : DocumentValue) (f : PlanFault) → f ≢ Memory → IsDocumentFault d f →
    fault_of (check_of f) (first_of f) (second_of f) ≡ f
rebuilt d Version m h = refl
rebuilt d Bits m h = refl
rebuilt d NodeCount m h = refl
rebuilt d StepCount m h = refl
rebuilt d (Step node number) m h = refl
rebuilt d TurnCount m h = refl
rebuilt d (Turn number) m h = refl
rebuilt d StrikeCount m h = refl
rebuilt d (Strike number) m h = refl
rebuilt d TooLong m h = absurd h
rebuilt d NotText m h = absurd h
rebuilt d Toml m h = absurd h
rebuilt d Key m h = absurd h
rebuilt d Memory m h = absurd (m refl)

-- where the check with this number finds its bad text
abbrev IsAt : ℕ → DocumentValue → ℕ → ℕ → Type 0
IsAt (suc (suc (suc (suc zero)))) d a b = IsFirstBadIn (SaysStep (version_of d)) d.nodes a b
IsAt (suc (suc (suc (suc (suc (suc zero)))))) d a b =
    IsFirstBad (SaysTurn (version_of d) (length d.nodes)) d.turns a × (b ≡ 0)
IsAt (suc (suc (suc (suc (suc (suc (suc (suc zero)))))))) d a b =
    IsFirstBad (SaysStrike (length d.nodes)) d.faults a × (b ≡ 0)
IsAt n d a b = (a ≡ 0) × (b ≡ 0)

is_at : (d : DocumentValue) (f : PlanFault) → f ≢ Memory → IsDocumentFault d f →
    IsAt (check_of f) d (first_of f) (second_of f)
is_at d Version m h = (refl, refl)
is_at d Bits m h = (refl, refl)
is_at d NodeCount m h = (refl, refl)
is_at d StepCount m h = (refl, refl)
is_at d (Step node number) m h = h.1
is_at d TurnCount m h = (refl, refl)
is_at d (Turn number) m h = (h.1, refl)
is_at d StrikeCount m h = (refl, refl)
is_at d (Strike number) m h = (h.1, refl)
is_at d TooLong m h = absurd h
is_at d NotText m h = absurd h
is_at d Toml m h = absurd h
is_at d Key m h = absurd h
is_at d Memory m h = absurd (m refl)

at_once : (n : ℕ) (d : DocumentValue) (a b x y : ℕ) → IsAt n d a b → IsAt n d x y → SameNumbers a x b y
at_once zero d a b x y h k = record { list_is = h.0 ∙ sym k.0; number_is = h.1 ∙ sym k.1 }
at_once (suc zero) d a b x y h k = record { list_is = h.0 ∙ sym k.0; number_is = h.1 ∙ sym k.1 }
at_once (suc (suc zero)) d a b x y h k = record { list_is = h.0 ∙ sym k.0; number_is = h.1 ∙ sym k.1 }
at_once (suc (suc (suc zero))) d a b x y h k = record { list_is = h.0 ∙ sym k.0; number_is = h.1 ∙ sym k.1 }
at_once (suc (suc (suc (suc zero)))) d a b x y h k = one_bad_in (SaysStep (version_of d)) d.nodes a x b y h k
at_once (suc (suc (suc (suc (suc zero))))) d a b x y h k = record { list_is = h.0 ∙ sym k.0; number_is = h.1 ∙ sym k.1 }
at_once (suc (suc (suc (suc (suc (suc zero)))))) d a b x y h k =
    record {
      list_is = one_bad (SaysTurn (version_of d) (length d.nodes)) d.turns a x h.0 k.0;
      number_is = h.1 ∙ sym k.1;
    }
at_once (suc (suc (suc (suc (suc (suc (suc zero))))))) d a b x y h k =
    record { list_is = h.0 ∙ sym k.0; number_is = h.1 ∙ sym k.1 }
at_once (suc (suc (suc (suc (suc (suc (suc (suc zero)))))))) d a b x y h k =
    record { list_is = one_bad (SaysStrike (length d.nodes)) d.faults a x h.0 k.0; number_is = h.1 ∙ sym k.1 }
at_once (suc (suc (suc (suc (suc (suc (suc (suc (suc n))))))))) d a b x y h k =
    record { list_is = h.0 ∙ sym k.0; number_is = h.1 ∙ sym k.1 }

-- what a document says has one first fault at most
pub one_document_fault : (d : DocumentValue) (e f : PlanFault) → e ≢ Memory → f ≢ Memory → IsDocumentFault d e →
    IsDocumentFault d f → e ≡ f
one_document_fault d e f m n h k = by_order (cases_order (check_of e) (check_of f))
  where
    by_order : (check_of e ≡ check_of f) ⊎ ((check_of e < check_of f) ⊎ (check_of f < check_of e)) → e ≡ f
    by_order (inl same) =
        let there = subst (λ i. IsAt i d (first_of e) (second_of e)) same (is_at d e m h) in
        let numbers =
        at_once (check_of f) d (first_of e) (second_of e) (first_of f) (second_of f) there (is_at d f n k) in
        sym (rebuilt d e m h) ∙ ap (λ i. fault_of i (first_of e) (second_of e)) same
        ∙ ap₂ (λ a b. fault_of (check_of f) a b) numbers.list_is numbers.number_is ∙ rebuilt d f n k
    by_order (inr (inl less)) =
        absurd (fails d e m h (passes_at (check_of e) (check_of f) d less (before_fault d f n k)))
    by_order (inr (inr more)) =
        absurd (fails d f n k (passes_at (check_of f) (check_of e) d more (before_fault d e m h)))

-- a plan has passed every check
passes_all : (d : DocumentValue) (p : PlanValue) (n : ℕ) → SaysPlan d p → Passes n d
passes_all d p zero h = (p.version, h.version.0, h.version.1, h.version.2)
passes_all d p (suc zero) h =
    (p.bits, h.bits.0, h.bits.1, subst (λ v. p.bits ≤ most_bits v) (sym (version_is d p.version h.version.0)) h.bits.2)
passes_all d p (suc (suc zero)) h = h.node_count
passes_all d p (suc (suc (suc zero))) h = h.step_counts
passes_all d p (suc (suc (suc (suc zero)))) h =
    let same = sym (version_is d p.version h.version.0) in
    (p.nodes, subst (λ v. AllZip (AllZip (SaysStep v)) d.nodes p.nodes) same h.steps)
passes_all d p (suc (suc (suc (suc (suc zero))))) h = h.turn_count
passes_all d p (suc (suc (suc (suc (suc (suc zero)))))) h =
    let same = sym (version_is d p.version h.version.0) in
    (p.turns, subst (λ v. AllZip (SaysTurn v (length d.nodes)) d.turns p.turns) same h.turns)
passes_all d p (suc (suc (suc (suc (suc (suc (suc zero))))))) h = h.strike_count
passes_all d p (suc (suc (suc (suc (suc (suc (suc (suc n)))))))) h = (p.strikes, h.strikes)

-- a document that is a plan has no fault
pub no_document_fault : (d : DocumentValue) (p : PlanValue) (f : PlanFault) → f ≢ Memory →
    SaysPlan d p → ¬ IsDocumentFault d f
no_document_fault d p f m h = λ k. fails d f m k (passes_all d p (check_of f) h)
