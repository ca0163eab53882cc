-- How the bits and steps of a run in one thread follow the turns of its plan (this project's own rule).
use Rattle.std.specs.Prelude.{◌≡◌, ◌+◌, ◌<◌, ◌≤◌, ◌⊎◌, ℕ, suc, true, false, List, []}
use Rattle.std.specs.Prelude.{◌∷◌, length, take, set, slice_index, slice_index_or}
use Rattle.sja_journal.specs.declared.entry.Entry.{Entry}
use Rattle.sja_steps.specs.declared.step.Step.{Step}
use Rattle.sja_steps.specs.declared.step.Step.TheVariants.{Await, Sent, Interrupt, At}
use Rattle.sja_plan.specs.declared.turn.Turn.{Turn}
use Rattle.sja_plan.specs.declared.turn.Turn.TheVariants.{Bus, Rest, Node, All, Irq, Go}
use Rattle.sja_plan.specs.Plan.{PlanValue}
use Rattle.sja_driver.specs.StepRuns.{StepRun, step_runs_at, by_bytes, acts_in}
use Rattle.sja_driver.specs.TypedActs.{TypedAct, given_in, is_active, opened_by}
use Rattle.sja_log.specs.declared.end.End.{End}
use Rattle.sja_log.specs.declared.end.End.TheVariants.{Turns as TurnsDone, Bits as BitsSpent}
use Rattle.sja_driver.specs.Windows.{off_by, window_of}
use Rattle.sja_driver.specs.NodeRest.{IsHolding, IsAtRest}
use Rattle.sja_driver.specs.Moments.{at_moment, record_at}
use Rattle.sja_promises.specs.Registering.{IsLineInactive, IsLineActive}

-- ---- a run, and how far it has come

-- a run of a plan: of each node its journal, and the steps of its driver that were done
pub record Acts : Type 0 where
  pub plan : PlanValue
  pub journals : List (List Entry)
  pub step_runs : List (List StepRun)

-- the bits run, and how many steps of each driver are done
pub record Progress : Type 0 where
  pub bits : ℕ
  pub done : List ℕ

abbrev pub steps_of : Acts → ℕ → List Step
steps_of r k = slice_index_or r.plan.nodes k []

abbrev pub journal_of : Acts → ℕ → List Entry
journal_of r k = slice_index_or r.journals k []

abbrev pub all_step_runs : Acts → ℕ → List StepRun
all_step_runs r k = step_runs_at r.step_runs k

-- how many steps of a driver are done, and its acts so far
abbrev pub steps_done : Progress → ℕ → ℕ
steps_done p k = slice_index p.done k

abbrev pub acts_by : Acts → Progress → ℕ → List TypedAct
acts_by r p k = acts_in (take (steps_done p k) (all_step_runs r k))

abbrev pub with_steps : Progress → ℕ → ℕ → Progress
with_steps p k m = record p { done = set p.done k (steps_done p k + m) }

abbrev pub with_bits : Progress → ℕ → Progress
with_bits p n = record p { bits = p.bits + n }

-- every controller is at rest after so many bits, when all that was given was taken
abbrev pub AllAtRest : Acts → Progress → ℕ → Type 0
AllAtRest r p bits = (k : ℕ) → k < length r.plan.nodes → IsAtRest (record_at (journal_of r k) (acts_by r p k) bits)

-- ---- steps

-- a step that waits has to wait on: too few messages have come, the transmit buffer isn't released, the interrupt line
-- isn't active by the registers that entries and acts have led to by then, or in version 3 fewer bits have run
abbrev pub IsUnmet : ℕ → List Entry → List TypedAct → ℕ → Step → Type 0
IsUnmet version j before bits (Await count) =
    (is_active before ≡ true) × (off_by bits j (opened_by before) ≡ false) × (length (window_of j before bits) < count)
IsUnmet version j before bits Sent = (is_active before ≡ true) × IsHolding (record_at j before bits)
IsUnmet version j before bits Interrupt = IsLineInactive version (at_moment bits (length (given_in before)) j) before
IsUnmet version j before bits (At least) = (by_bytes version ≡ true) × (bits < least)
IsUnmet version j before bits other = ⊥

-- the driver has no step left, or its next one has to wait
pub record IsStuck (r : Acts) (p : Progress) (k : ℕ) : Type 0 where
  pub why : (length (steps_of r k) ≤ steps_done p k)
      ⊎ ((d : Step) → IsUnmet r.plan.version (journal_of r k) (acts_by r p k) p.bits
      (slice_index_or (steps_of r k) (steps_done p k) d))

-- m steps of node k are done now, of the n that are asked for: all of them, or up to where the driver is stuck
pub record DoesSteps (r : Acts) (p : Progress) (k n m : ℕ) : Type 0 where
  pub most : m ≤ n
  pub exist : steps_done p k + m ≤ length (all_step_runs r k)
  pub now : (i : ℕ) (a : StepRun) → i < m → (slice_index_or (all_step_runs r k) (steps_done p k + i) a).bits ≡ p.bits
  pub stuck : m < n → IsStuck r (with_steps p k m) k

-- m steps of node k are done now, as many as can be: up to where the driver is stuck
abbrev pub DoesAll : Acts → Progress → ℕ → ℕ → Type 0
DoesAll r p k m = DoesSteps r p k (suc m) m

-- from node k on each driver, in the order of the nodes, does now all that it can
pub data AllDo (r : Acts) : ℕ → Progress → Progress → Type 0 where
  no_node_more : (k : ℕ) (p : Progress) → length r.plan.nodes ≤ k → AllDo r k p p
  one_node : (k m : ℕ) (p q : Progress) → k < length r.plan.nodes → DoesAll r p k m →
      AllDo r (suc k) (with_steps p k m) q → AllDo r k p q

-- no driver has a step left
abbrev pub NoneLeft : Acts → Progress → Type 0
NoneLeft r p = (k : ℕ) → k < length r.plan.nodes → length (steps_of r k) ≤ steps_done p k

-- some driver has
abbrev pub SomeLeft : Acts → Progress → Type 0
SomeLeft r p = (k : ℕ) × (k < length r.plan.nodes) × (steps_done p k < length (steps_of r k))

-- ---- the interrupt line

-- what node k got by so many bits, with the steps done
abbrev pub entries_by : Acts → Progress → ℕ → ℕ → List Entry
entries_by r p k bits = at_moment bits (length (given_in (acts_by r p k))) (journal_of r k)

-- the interrupt line of node k isn't active after so many bits, or is
abbrev pub IsLineDown : Acts → Progress → ℕ → ℕ → Type 0
IsLineDown r p k bits = IsLineInactive r.plan.version (entries_by r p k bits) (acts_by r p k)

abbrev pub IsLineUp : Acts → Progress → ℕ → ℕ → Type 0
IsLineUp r p k bits = IsLineActive r.plan.version (entries_by r p k bits) (acts_by r p k)

-- ---- turns

-- from one point of a run the turns lead to another, and end so
pub data RunsTo (r : Acts) : Progress → List Turn → Progress → End → Type 0 where
  all_done : (p : Progress) → RunsTo r p [] p TurnsDone
  -- `bus N` runs N bits; where fewer are left the run ends with them
  bus : (p q : Progress) (n : ℕ) (turns : List Turn) (end : End) → p.bits + n ≤ r.plan.bits →
      RunsTo r (with_bits p n) turns q end → RunsTo r p (Bus n ∷ turns) q end
  bus_spent : (p : Progress) (n : ℕ) (turns : List Turn) → r.plan.bits < p.bits + n →
      RunsTo r p (Bus n ∷ turns) (record p { bits = r.plan.bits }) BitsSpent
  -- `rest` runs bits up to the first taking that leaves every controller at rest; where none does the bits are spent
  rest : (p q : Progress) (n : ℕ) (turns : List Turn) (end : End) → p.bits + n ≤ r.plan.bits →
      ((i : ℕ) → i < n → ¬ AllAtRest r p (p.bits + i)) → AllAtRest r p (p.bits + n) →
      RunsTo r (with_bits p n) turns q end → RunsTo r p (Rest ∷ turns) q end
  rest_spent : (p : Progress) (turns : List Turn) →
      ((bits : ℕ) → p.bits ≤ bits → bits ≤ r.plan.bits → ¬ AllAtRest r p bits) →
      RunsTo r p (Rest ∷ turns) (record p { bits = r.plan.bits }) BitsSpent
  -- `node K N` does N steps of driver K; past its last step there are none, and one that has to wait ends the turn
  node : (p q : Progress) (k n m : ℕ) (turns : List Turn) (end : End) → DoesSteps r p k n m →
      RunsTo r (with_steps p k m) turns q end → RunsTo r p (Node k n ∷ turns) q end
  -- `node K` does steps of driver K up to its last one, or to one that has to wait
  all : (p q : Progress) (k m : ℕ) (turns : List Turn) (end : End) → DoesAll r p k m →
      RunsTo r (with_steps p k m) turns q end → RunsTo r p (All k ∷ turns) q end
  -- `irq K N` runs the fewest bits, N at most, after which the interrupt line of node K is active: none where it is
  -- already; where it doesn't come, and fewer than N are left, the run ends with them
  irq : (p q : Progress) (k most n : ℕ) (turns : List Turn) (end : End) → p.bits + n ≤ r.plan.bits → n ≤ most →
      ((i : ℕ) → i < n → IsLineDown r p k (p.bits + i)) → (n ≡ most) ⊎ IsLineUp r p k (p.bits + n) →
      RunsTo r (with_bits p n) turns q end → RunsTo r p (Irq k most ∷ turns) q end
  irq_spent : (p : Progress) (k most : ℕ) (turns : List Turn) → r.plan.bits < p.bits + most →
      ((bits : ℕ) → p.bits ≤ bits → bits ≤ r.plan.bits → IsLineDown r p k bits) →
      RunsTo r p (Irq k most ∷ turns) (record p { bits = r.plan.bits }) BitsSpent
  -- `go`: each driver does all that it can; while one has a step left a bit is run, and so it goes on, so bits run up
  -- to the first one after which a driver can do its next step; once none has a step left it is `rest`
  go : (p m q : Progress) (turns : List Turn) (end : End) → AllDo r 0 p m → SomeLeft r m →
      RunsTo r m (Bus 1 ∷ Go ∷ turns) q end → RunsTo r p (Go ∷ turns) q end
  go_over : (p m q : Progress) (turns : List Turn) (end : End) → AllDo r 0 p m → NoneLeft r m →
      RunsTo r m (Rest ∷ turns) q end → RunsTo r p (Go ∷ turns) q end
