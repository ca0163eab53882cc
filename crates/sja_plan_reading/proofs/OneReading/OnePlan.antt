-- Bytes are one plan at most.
use Rattle.std.proofs.Common.{◌≡◌, ◌∙◌, ℕ, ℤ, pos, Option, Some, List, [], ◌∷◌, length, codes, refl, sym, ap, ap₂}
use Rattle.std.proofs.Common.{subst}
use Rattle.std.specs.List.{AllZip}
use Rattle.toml.specs.Data.{Members, get_member}
use Rattle.sja_plan_reading.specs.Words.{Text}
use Rattle.sja_plan_reading.specs.Document.{DocumentValue, HasShape, turn_texts}
use Rattle.sja_plan_reading.specs.StepTexts.{SaysStep}
use Rattle.sja_plan_reading.specs.TurnTexts.{SaysTurn}
use Rattle.sja_plan_reading.specs.StrikeTexts.{SaysStrike}
use Rattle.sja_plan.specs.Plan.{PlanValue}
use Rattle.sja_plan_reading.specs.Checks.{SaysPlan}
use Rattle.sja_plan_reading.specs.Faults.{Says, IsPlanOf}
use Rattle.sja_steps.specs.declared.step.Step.{Step}
use Rattle.sja_plan.specs.declared.turn.Turn.{Turn}
use Rattle.sja_steps.specs.declared.strike.Strike.{Strike}
use Rattle.sja_plan_reading.proofs.OneReading.OneMeaning.{value_or, one_step, one_turn, one_strike}

some_once : {X : Type 0} (o : Option X) (x y : X) → o ≡ Some x → o ≡ Some y → x ≡ y
some_once o x y h k = ap (value_or x) (sym h ∙ k)

abbrev nat_of : ℤ → ℕ
nat_of (pos n) = n
nat_of z = 0

zip_once : {A B : Type 0} (R : A → B → Type 0) → ((x : A) (y z : B) → R x y → R x z → y ≡ z) →
    (xs : List A) (ys zs : List B) → AllZip R xs ys → AllZip R xs zs → ys ≡ zs
zip_once R one [] [] [] h k = refl
zip_once R one [] [] (z ∷ zs) h k = absurd k
zip_once R one [] (y ∷ ys) zs h k = absurd h
zip_once R one (x ∷ xs) [] zs h k = absurd h
zip_once R one (x ∷ xs) (y ∷ ys) [] h k = absurd k
zip_once R one (x ∷ xs) (y ∷ ys) (z ∷ zs) h k = ap₂ (λ a b. a ∷ b) (one x y z h.0 k.0) (zip_once R one xs ys zs h.1 k.1)

abbrev document_of : ℤ → ℤ → List (List Text) → List Text → List Text → DocumentValue
document_of v b n t f = record { version = v; bits = b; nodes = n; turns = t; faults = f }

pub one_document : (bytes : List ℕ) (d e : DocumentValue) → Says bytes d → Says bytes e → d ≡ e
one_document bytes d e (ms, t, p, s) (other, u, q, r) =
    let same : other ≡ ms = some_once _ other ms q p in
    let k : HasShape ms e = subst (λ (m : Members). HasShape m e) same r in
    ap₂ (λ a b. document_of a b d.nodes d.turns d.faults) (some_once _ d.version e.version s.version k.version)
    (some_once _ d.bits e.bits s.bits k.bits)
    ∙ ap₂ (λ a b. document_of e.version e.bits a b d.faults) (some_once _ d.nodes e.nodes s.nodes k.nodes)
    (some_once _ d.turns e.turns s.turns (subst (λ v. turn_texts v (get_member (codes "turns") ms) ≡ Some e.turns)
    (sym (some_once _ d.version e.version s.version k.version)) k.turns))
    ∙ ap (λ a. document_of e.version e.bits e.nodes e.turns a) (some_once _ d.faults e.faults s.faults k.faults)

abbrev plan_of : ℕ → ℕ → List (List Step) → List Turn → List Strike → PlanValue
plan_of v b n t s = record { version = v; bits = b; nodes = n; turns = t; strikes = s }

one_said : (d : DocumentValue) (p q : PlanValue) → SaysPlan d p → SaysPlan d q → p ≡ q
one_said d p q h k =
    let version = ap nat_of (sym h.version.0 ∙ k.version.0) in
    let said = subst (λ v. AllZip (AllZip (SaysStep v)) d.nodes p.nodes) version h.steps in
    let steps = zip_once (AllZip (SaysStep q.version)) (zip_once (SaysStep q.version) (one_step q.version)) d.nodes
    p.nodes q.nodes said k.steps in
    let turned = subst (λ v. AllZip (SaysTurn v (length d.nodes)) d.turns p.turns) version h.turns in
    let turns = zip_once (SaysTurn q.version (length d.nodes)) (one_turn q.version (length d.nodes)) d.turns p.turns
    q.turns turned k.turns in
    let strikes = zip_once (SaysStrike (length d.nodes)) (one_strike (length d.nodes)) d.faults p.strikes
    q.strikes h.strikes k.strikes in
    ap₂ (λ a b. plan_of a b p.nodes p.turns p.strikes) version (ap nat_of (sym h.bits.0 ∙ k.bits.0))
    ∙ ap₂ (λ a b. plan_of q.version q.bits a b p.strikes) steps turns
    ∙ ap (λ a. plan_of q.version q.bits q.nodes q.turns a) strikes

pub one_plan : (bytes : List ℕ) (p q : PlanValue) → IsPlanOf bytes p → IsPlanOf bytes q → p ≡ q
one_plan bytes p q (d, h, s) (e, k, r) =
    one_said d p q s (subst (λ (f : DocumentValue). SaysPlan f q) (one_document bytes e d k h) r)
