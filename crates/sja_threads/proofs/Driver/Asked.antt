-- What a gate answered, by what is known of it.
use Rattle.std.proofs.Common.{◌≡◌, ◌≢◌, ℕ, Bool, subst}
use Rattle.std.specs.Prelude.{Option}
use Rattle.sja_thread_promises.specs.declared.pass.Pass.{Pass}
use Rattle.sja_thread_promises.specs.declared.pass.Pass.TheVariants.{Go, Hold, Quit}
use Rattle.sja_thread_promises.specs.Asking.{HasAnswered, pass_if, pass_of}

-- a gate that lets a try go, or holds it, doesn't quit
pub go_on : Go ≢ Quit
go_on e = cc

pub hold_on : Hold ≢ Quit
hold_on e = cc

module _ {G : Type 0} (answered : G → ℕ → ℕ → ℕ → Pass → Type 0) (gate : G) (was node step tries : ℕ)
    (same : was ≡ node)
  where
    -- of a node with another name
    pub at_node : (pass : Pass) → answered gate was step tries pass → answered gate node step tries pass
    at_node pass says = subst (λ (n : ℕ). answered gate n step tries pass) same says

    -- by whether a step was done, or an act
    pub when : (done is : Bool) → done ≡ is → answered gate was step tries (pass_of done) →
        answered gate node step tries (pass_of is)
    when done is e says = at_node (pass_of is) (subst (λ (b : Bool). answered gate was step tries (pass_of b)) e says)

    pub when_if : {A : Type 0} (given is : Option A) → given ≡ is → answered gate was step tries (pass_if given) →
        answered gate node step tries (pass_if is)
    when_if {A} given is e says =
        at_node (pass_if is) (subst (λ (o : Option A). answered gate was step tries (pass_if o)) e says)

-- and of a step with another number
pub has_when : {G : Type 0} (answered : G → ℕ → ℕ → ℕ → Pass → Type 0) (gate : G) (was node step number : ℕ)
    (done is : Bool) → was ≡ node → step ≡ number → done ≡ is → HasAnswered answered gate was step (pass_of done) →
    HasAnswered answered gate node number (pass_of is)
has_when answered gate was node step number done is same so e h =
    subst (λ (n : ℕ). HasAnswered answered gate node n (pass_of is)) so
    (subst (λ (n : ℕ). HasAnswered answered gate n step (pass_of is)) same
    (subst (λ (b : Bool). HasAnswered answered gate was step (pass_of b)) e h))
