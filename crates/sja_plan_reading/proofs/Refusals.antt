-- Causes why a text isn't taken for a document.
use Rattle.std.proofs.Common.{◌≡◌, Bool, true, false, Result, Ok, Err, sym, ap, ◌∙◌}
use Rattle.std.specs.Result.{IsErrAnd}
use Rattle.std.proofs.lemmas.Bool.{false≢true}
use Rattle.sja_plan_reading.specs.Inside.Reading.{Refuses}
use Rattle.sja_plan_reading.specs.declared.tables.refusal.Refusal.{Refusal}
use Rattle.sja_plan_reading.specs.declared.tables.refusal.Refusal.TheVariants.{NoToml, Open, NoMemory}

is_memory : Refusal → Bool
is_memory NoToml = false
is_memory Open = false
is_memory NoMemory = true

-- memory that is refused is no fault of a text
pub not_memory : (e : Refusal) → e ≡ NoToml → e ≡ NoMemory → ⊥
unfolding is_memory
not_memory e is m = false≢true (ap is_memory (sym is ∙ m))

-- a cause that is passed on
pub refuses_err : {A : Type 0} (r : Result A Refusal) (e : Refusal) (P : Type 0) → IsErrAnd r (λ y. y ≡ e) →
    (e ≡ NoToml → P) → Refuses r P
refuses_err (Ok a) e P h refused = absurd h
refuses_err (Err y) e P h refused = λ is. refused (sym h ∙ is)

-- what follows where a cause says that a text isn't TOML
pub on_refused : {T : Type 0} {P Q : Type 0} (r : Result T Refusal) → (P → Q) → Refuses r P → Refuses r Q
on_refused (Ok x) f h = tt
on_refused (Err e) f h = λ is. f (h is)
