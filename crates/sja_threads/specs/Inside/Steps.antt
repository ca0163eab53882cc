-- The acts of a driver in its thread.
use Rattle.std.specs.Prelude.{◌≡◌, ◌≤◌, ◌+◌, ◌++◌, ℕ, Bool, true, false, Option, Some, None, List, [], ◌∷◌, length, map}
use Rattle.sja_link.specs.declared.driver_end.DriverEnd.{Ghosts as Ends}
use Rattle.lemmas.specs.Gathering.{total}
use Rattle.sja_steps.specs.declared.step.Step.{Step}
use Rattle.sja_steps.specs.declared.step.Step.TheVariants.{Release}
use Rattle.sja_steps.specs.declared.step_answer.StepAnswer.{StepAnswer}
use Rattle.sja_driver.specs.StepRuns.{by_bytes}
use Rattle.sja_driver.specs.AnyDrivers.{is_out}
use Rattle.sja_driver.specs.TypedActs.{TypedAct}
use Rattle.sja_driver.specs.Holding.{Goes}
use Rattle.sja_driver.specs.LoggedDrivers.{node_of, driver_of, log_of, kept_of, IsLawful}
use Rattle.sja_driver.specs.Logs.{HasRoom, IsEmpty, KeepsLog, Traces, done_in, done_room}
use Rattle.sja_driver.specs.declared.logged_driver.LoggedDriver.{LoggedDriver}
use Rattle.sja_driver.specs.declared.written.Written.{Written}
use Rattle.sja_driver.specs.Kept.{at_power_on}
use Rattle.sja_driver.specs.Written.{written_by}
use Rattle.sja_threads.specs.declared.order.Order.{Ghosts as Orders}
use Rattle.sja_threads.specs.declared.driver_thread.DriverThread.{DriverThread}
use Rattle.sja_thread_promises.specs.Accessing.{LeadOn}
use Rattle.sja_thread_promises.specs.Counting.{AreCounted, found_after}
use Rattle.sja_thread_promises.specs.Ordering.{active_by, done_at_port, done_in_order}
use Rattle.sja_threads.specs.Inside.Ordered.{set_after}

-- ---- how much room a log needs

-- an act of this step takes so much of it: a release does, and nothing else
abbrev pub room_of : Step → ℕ
room_of Release = 1
room_of other = 0

-- acts take so much together
abbrev pub room_taken : List TypedAct → ℕ
room_taken acts = total room_of (map (λ (d : TypedAct). d.step) acts)

-- of these steps only the last one takes any
abbrev pub LastTakes : List Step → Type 0
LastTakes [] = Unit {0}
LastTakes (this ∷ []) = Unit {0}
LastTakes (this ∷ next ∷ rest) = (room_of this ≡ 0) × LastTakes (next ∷ rest)

-- ---- what may be done

-- a driver may go on that releases so many messages more at most: its log has room for them, and its end is that of its
-- node's links. What it has set, and whether it is out of reset, is so by its acts at the port
pub record MayWork {N E : Type 0} {o : Orders N} (node_at : E → ℕ) (t : DriverThread N E o) (many : ℕ) : Type 0 where
  pub bytes : t.bytes ≡ by_bytes t.set.version
  pub set : set_after t.done.version t.done.known.list ≡ t.set
  pub active : active_by false (done_in_order t.done.known.list) ≡ is_out (driver_of t.driver)
  pub lawful : IsLawful t.driver
  pub room : HasRoom t.done.version many (log_of t.driver)
  pub own : node_at t.end ≡ node_of t.driver

-- it may do so many steps more, each of which releases one message at most
pub record MayStep {N E : Type 0} {o : Orders N} (node_at : E → ℕ) (t : DriverThread N E o) (steps : ℕ) : Type 0 where
  pub may : MayWork node_at t steps
  pub room : length (done_in (log_of t.driver)) + steps ≤ done_room (log_of t.driver)

-- a driver did nothing yet, and may do so many steps
pub record MayBegin {N E : Type 0} {o : Orders N} (node_at : E → ℕ) (t : DriverThread N E o) (steps : ℕ) :
    Type 0 where
  pub may : MayStep node_at t steps
  pub reset : is_out (driver_of t.driver) ≡ false
  pub empty : IsEmpty (log_of t.driver)
  pub none : t.done.known.list ≡ []
  pub found : t.found ≡ 0
  pub kept : kept_of t.driver ≡ at_power_on
  pub traces : (version : ℕ) → Traces version (driver_of t.driver) (log_of t.driver) []

-- ---- acts

-- a driver did these acts, each once and in this order: with them its log and its links went on, for all acts before
-- and for all journals, and so did what it has set, which is of the same version; its end is the same one, its log
-- keeps all if it did, and has the room left that they didn't take
pub record Does {N E : Type 0} {o : Orders N} (e : Ends E) (was now : DriverThread N E o) (acts : List TypedAct) :
    Type 0 where
  pub version : now.set.version ≡ was.set.version
  pub goes : Goes e.stands was.set.version (driver_of was.driver) (driver_of now.driver) (log_of was.driver)
      (log_of now.driver) was.end now.end acts
  pub leads : (before : List TypedAct) → Traces was.set.version (driver_of was.driver) (log_of was.driver) before →
      LeadOn before was.set acts now.set
  pub alike : e.same was.end now.end
  pub node : node_of now.driver ≡ node_of was.driver
  pub same : now.done.node ≡ was.done.node
  pub at_port : done_in_order now.done.known.list ≡ done_in_order was.done.known.list ++ done_at_port acts
  pub keeps : KeepsLog (log_of was.driver) → KeepsLog (log_of now.driver)
  pub able : (n : ℕ) → MayWork e.node was (room_taken acts + n) → MayWork e.node now n

-- they count bits on from what it had found run, and so many it has found then
pub record CountsOn {N E : Type 0} {o : Orders N} (was now : DriverThread N E o) (acts : List TypedAct) : Type 0 where
  pub are : AreCounted was.found acts
  pub found : now.found ≡ found_after was.found acts

-- nothing more is entered as done, and what is kept stays
pub record EntersNone (was now : LoggedDriver) : Type 0 where
  pub done : (log_of now).done ≡ (log_of was).done
  pub kept : kept_of now ≡ kept_of was

-- one act of this step with this answer, or none where it has no answer
abbrev pub IsActIf : Step → Option StepAnswer → List TypedAct → Type 0
IsActIf this None acts = acts ≡ []
IsActIf this (Some answer) acts =
    (map (λ (d : TypedAct). d.step) acts ≡ this ∷ []) × (map (λ (d : TypedAct). d.answer) acts ≡ answer ∷ [])

-- that act was done, which isn't entered yet
pub record DoesAct {N E : Type 0} {o : Orders N} (e : Ends E) (was now : DriverThread N E o) (step : Step)
    (answer : Option StepAnswer) : Type 0 where
  pub acts : List TypedAct
  pub are : IsActIf step answer acts
  pub does : Does e was now acts
  pub counts : CountsOn was now acts
  pub none : EntersNone was.driver now.driver

-- of acts of these steps, which are some or all of one write, the first were done, all of them or not, and aren't
-- entered yet; by them the write went on
pub record DoesParts {N E : Type 0} {o : Orders N} (e : Ends E) (was now : DriverThread N E o) (all : List Step)
    (done : Bool) (on on_now : Written) : Type 0 where
  pub acts : List TypedAct
  pub left : List Step
  pub whole : all ≡ map (λ (d : TypedAct). d.step) acts ++ left
  pub does : Does e was now acts
  pub counts : CountsOn was now acts
  pub none : EntersNone was.driver now.driver
  pub moved : on_now ≡ written_by on acts
  pub ends : done ≡ true → left ≡ []
  pub waits : done ≡ false → 1 ≤ length left
