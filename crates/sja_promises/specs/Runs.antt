-- What is promised of every run that returns (this project's own rule).
use Rattle.std.specs.Prelude.{◌≡◌, ◌+◌, ◌<◌, ℕ, List, [], length, map, replicate, slice_index_or, take}
use Rattle.sja_journal.specs.Parts.{part}
use Rattle.sja_journal.specs.Carried.{taken_of}
use Rattle.sja_steps.specs.declared.step.Step.{Step}
use Rattle.sja_plan.specs.Plan.{PlanValue, steps_at}
use Rattle.sja_driver.specs.StepRuns.{StepRun, step_runs_at, acts_in, step_record_of}
use Rattle.sja_driver.specs.TypedActs.{TypedAct, AreAnswered, opened_by, given_in, acts_of, released_lengths}
use Rattle.sja_bus_rules.specs.Lawful.{CountersAre, IsBusRun}
use Rattle.sja_log.specs.Log.{ActivationValue, NodeValue, RunValue, journals_in}
use Rattle.sja_promises.specs.Headline.{IsAccount}
use Rattle.sja_promises.specs.Settling.{AreSettled}
use Rattle.sja_driver.specs.InTime.{IsInTime}
use Rattle.sja_promises.specs.Turns.{RunsTo}
use Rattle.sja_promises.specs.Registering.{HaveRegisters}

-- the node's driver did these acts, each answered as in this version its state has it and giving what it gives, and
-- what was given and released in each activation is theirs
pub record IsTrace (version : ℕ) (node : NodeValue) (acts : List TypedAct) : Type 0 where
  pub answered : AreAnswered version acts
  pub opened : length node.activations ≡ opened_by acts
  pub given : (a : ℕ) → given_in (acts_of acts a) ≡ taken_of (part node.journal a)
  pub released : (a : ℕ) (d : ActivationValue) → a < length node.activations →
      released_lengths (acts_of acts (a + 1))
      ≡ map (λ (m : List ℕ). length m) (slice_index_or node.activations a d).released

-- of a node of a run: the headline, its error counters by every cut of its record, its driver's trace, and how each
-- activation stands at the end
pub record IsNodeRun (version : ℕ) (node : NodeValue) (acts : List TypedAct) : Type 0 where
  pub account : IsAccount node
  pub counters : CountersAre node.journal node.txerr node.rxerr
  pub trace : IsTrace version node acts
  pub settled : AreSettled node

-- of every run, in one thread or in many: each node's, and what holds of every bus, with the wire of all
pub record IsRun (plan : PlanValue) (log : RunValue) (acts : List (List TypedAct)) : Type 0 where
  pub version : log.version ≡ plan.version
  pub count : length log.nodes ≡ length plan.nodes
  pub nodes : (k : ℕ) (d : NodeValue) → k < length log.nodes →
      IsNodeRun plan.version (slice_index_or log.nodes k d) (slice_index_or acts k [])
  pub bus : IsBusRun plan.strikes log.bits (journals_in log)

-- the steps that a node's log has as done are these, which are the first ones of its driver's
pub record AreFirst (steps : List Step) (node : NodeValue) (step_runs : List StepRun) : Type 0 where
  pub first : map (λ (a : StepRun). a.step) step_runs ≡ take (length step_runs) steps
  pub done : map step_record_of step_runs ≡ node.done

-- of a run in one thread also: of each driver the steps that were done are the first ones of the plan's, and the log's;
-- drivers and bus are in time; each step is what it is by the registers that steps and bits before it have left; and
-- bits and steps follow the plan's turns
pub record IsSerialRun (plan : PlanValue) (log : RunValue) : Type 0 where
  pub step_runs : List (List StepRun)
  pub run : IsRun plan log (map (λ l. acts_in l) step_runs)
  pub steps : (k : ℕ) (d : NodeValue) → k < length log.nodes →
      AreFirst (steps_at plan k) (slice_index_or log.nodes k d) (step_runs_at step_runs k)
  pub in_time : (k : ℕ) (d : NodeValue) → k < length log.nodes →
      IsInTime plan.version (slice_index_or log.nodes k d).journal (acts_in (step_runs_at step_runs k))
  pub registers : HaveRegisters plan log step_runs
  pub turns : RunsTo (record { plan = plan; journals = journals_in log; step_runs = step_runs })
      (record { bits = 0; done = replicate (length plan.nodes) 0 }) plan.turns
      (record { bits = log.bits; done = map (λ (n : NodeValue). length n.done) log.nodes }) log.end
