-- How a gate is asked about the tries of a driver's steps, and what follows from its answers (this project's own rule).
use Rattle.std.specs.Prelude.{◌≡◌, ◌⊎◌, ◌+◌, ◌<◌, ℕ, min, Bool, true, false, Option, Some, None, List, slice_get}
use Rattle.sja_thread_promises.specs.declared.pass.Pass.{Pass}
use Rattle.sja_thread_promises.specs.declared.pass.Pass.TheVariants.{Go, Quit}

-- after a number comes the next one; or the greatest that there is, where none can come any more, or nothing can end
-- the wait
abbrev pub IsNextNumber : ℕ → ℕ → Type 0
IsNextNumber number next = (next ≡ number + 1) ⊎ (next ≡ 4294967295)

-- the number of a step that has so many before it: counted from 1, it stays at the greatest that there is
abbrev pub number_after : ℕ → ℕ
number_after before = min (before + 1) 4294967295

-- what a gate answered last, by whether a step is done; and by whether an act is, which has an answer then
abbrev pub pass_of : Bool → Pass
pass_of true = Go
pass_of false = Quit

abbrev pub pass_if : {A : Type 0} → Option A → Pass
pass_if (Some answer) = Go
pass_if None = Quit

-- asked about some try of this step a gate gave this answer
abbrev pub HasAnswered : {G : Type 0} → (G → ℕ → ℕ → ℕ → Pass → Type 0) → G → ℕ → ℕ → Pass → Type 0
HasAnswered answered gate node step pass = (tries : ℕ) × answered gate node step tries pass

-- of so many steps a driver did so many by this gate: it let each of them go, asked about it by its number; and all
-- were done, or it quit, asked about the next one by its number
pub record IsLet {G : Type 0} (quits : Bool) (answered : G → ℕ → ℕ → ℕ → Pass → Type 0) (gate : G)
    (node steps done : ℕ) : Type 0 where
  pub go : (before : ℕ) → before < done → HasAnswered answered gate node (number_after before) Go
  pub ends : (done ≡ steps) ⊎ ((quits ≡ true) × HasAnswered answered gate node (number_after done) Quit)

-- the driver of a node did so many of so many steps by its gate, of these by node
abbrev pub AtNode : {G : Type 0} → (G → ℕ → ℕ → ℕ → Type 0) → List G → ℕ → ℕ → ℕ → Type 0
AtNode {G} Lets gates node steps done = (gate : G) × (slice_get gates node ≡ Some gate) × Lets gate node steps done
