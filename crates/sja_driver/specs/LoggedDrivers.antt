-- The logged step: one step of a script at the right one of a node's links (this project's own rule).
use Rattle.std.specs.Prelude.{◌≡◌, ◌<◌, ◌≤◌, ◌+◌, ◌++◌, ℕ, Option, None, length}
use Rattle.sja_journal.specs.Lists.{Lists, OthersStand}
use Rattle.sja_regs.specs.declared.registers.Registers.{Registers}
use Rattle.sja_steps.specs.declared.step.Step.{Step}
use Rattle.sja_steps.specs.declared.step_answer.StepAnswer.{StepAnswer}
use Rattle.sja_driver.specs.declared.any_driver.AnyDriver.{AnyDriver}
use Rattle.sja_driver.specs.declared.unmodelled_registers.UnmodelledRegisters.{UnmodelledRegisters}
use Rattle.sja_driver.specs.declared.logged_driver.LoggedDriver.{LoggedDriver}
use Rattle.sja_driver.specs.declared.work_log.WorkLog.{WorkLog}
use Rattle.sja_driver.specs.Acting.{ActsOn}
use Rattle.sja_driver.specs.AnyDrivers.{IsDriverOf, link_used, opened_of}
use Rattle.sja_driver.specs.Holding.{Goes}
use Rattle.sja_driver.specs.Logs.{HasRoom, releases_in, left_in, release_room, left_room, releases_by, left_by}
use Rattle.sja_driver.specs.Logs.{acts_by}
use Rattle.sja_driver.specs.Tries.{Tried, answer_of}

-- whose driver it is, the driver in its state, and the log
abbrev pub node_of : LoggedDriver → ℕ
node_of d = d.node

abbrev pub driver_of : LoggedDriver → AnyDriver
driver_of d = d.driver

abbrev pub log_of : LoggedDriver → WorkLog
log_of d = d.log

-- the registers that are kept for it
abbrev pub kept_of : LoggedDriver → UnmodelledRegisters
kept_of d = d.kept

-- how many of its activations have ended
abbrev pub ended_of : LoggedDriver → ℕ
ended_of d = length (left_in (log_of d))

-- the driver is that of the node, its state is that of an activation after those that the log says have ended, and the
-- log was made for at least as many as it opened
pub record IsLawful (d : LoggedDriver) : Type 0 where
  pub own : IsDriverOf (node_of d) (ended_of d) (driver_of d)
  pub few : opened_of (driver_of d) ≤ left_room (log_of d)

-- a step may be tried in this version: the log has room for one act more, and the end is that of the node's links
pub record MayStep {E : Type 0} (node_at : E → ℕ) (version : ℕ) (was : LoggedDriver) (end : E) : Type 0 where
  pub lawful : IsLawful was
  pub room : HasRoom version 1 (log_of was)
  pub own : node_at end ≡ node_of was

-- a window or a release may be tried: the log has room for one release more, and the end is that of the node's links
pub record MayRelease {E : Type 0} (node_at : E → ℕ) (was : LoggedDriver) (end : E) : Type 0 where
  pub lawful : IsLawful was
  pub room : length (releases_in (log_of was)) < release_room (log_of was)
  pub own : node_at end ≡ node_of was

-- what is in order after a try, whatever the step: the driver is still the node's, the end is the same one, the links
-- of all activations but the one in use stand as they did, and the log took the room of one act, or none where it
-- isn't done. Whoever tried it has to enter that it is done, and what is kept then
pub record StaysLawful {E : Type 0} (alike : E → E → Type 0) (stands : E → ℕ → Lists → Type 0)
    (was now : LoggedDriver) (old new : E) (answer : Option StepAnswer) : Type 0 where
  pub same : alike old new
  pub others : OthersStand stands (link_used (driver_of was)) old new
  pub node : node_of now ≡ node_of was
  pub lawful : IsLawful now
  pub room : (version k : ℕ) → HasRoom version (k + 1) (log_of was) → HasRoom version k (log_of now)
  pub done : (log_of now).done ≡ (log_of was).done
  pub kept : kept_of now ≡ kept_of was
  pub waits : answer ≡ None → (version k : ℕ) → HasRoom version k (log_of was) → HasRoom version k (log_of now)

-- a step was tried at the link of the present activation, and at a port whose registers were p and are q then; it has
-- this answer, if it is done
pub record Steps {E : Type 0} (alike : E → E → Type 0) (stands : E → ℕ → Lists → Type 0) (dry full : E → ℕ → Type 0)
    (was now : LoggedDriver) (old new : E) (p q : Registers) (step : Step) (answer : Option StepAnswer)
    : Type 0 where
  -- what came of it
  pub tried : Tried
  pub met : answer ≡ answer_of tried
  -- at that link and at the port
  pub acts : ActsOn alike stands dry full old new p q step (driver_of was) (driver_of now) tried
  -- what the log has more
  pub releases : releases_in (log_of now) ≡ releases_in (log_of was) ++ releases_by (ended_of was) tried
  pub leaves : left_in (log_of now) ≡ left_in (log_of was) ++ left_by tried
  -- for which there is as much room as there was
  pub release_room : release_room (log_of now) ≡ release_room (log_of was)
  pub left_room : left_room (log_of now) ≡ left_room (log_of was)
  -- and how that goes on with all acts before it, for every journal, after however many bits it was
  pub goes : (bits : ℕ) → Goes stands p.version (driver_of was) (driver_of now) (log_of was) (log_of now) old new
      (acts_by p step tried bits)
