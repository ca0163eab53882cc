-- The errors of a run, by the cut of each node's record (Bosch CAN 2.0 part A, section 6; which bits have one is told
-- by the definitions of can_node).
use Rattle.std.specs.Prelude.{◌≡◌, Option, List, [], map}
use Rattle.std.specs.List.{AllZip}
use Rattle.std.specs.Option.{option_map}
use Rattle.can_node_rules.specs.declared.cause.Cause.{Cause}
use Rattle.sja_journal.specs.declared.entry.Entry.{Entry}
use Rattle.sja_log.specs.Log.{NodeValue, RunValue}
use Rattle.sja_promises.specs.Runs.{IsSerialRun}
use Rattle.sja_plan.specs.Plan.{PlanValue}
use Rattle.sja_replay.specs.declared.bit_event.BitEvent.{BitEvent}
use Rattle.sja_replay.specs.Happened.{Happened}

-- the kind of error that the node found in a bit, if it found one
abbrev pub error_in : BitEvent → Option Cause
error_in h = option_map (λ fault. fault.0) h.events.fault

-- the bits of a journal brought these errors, one after another: by the cut of the journal's record
pub record HasErrors (journal : List Entry) (errors : List (Option Cause)) : Type 0 where
  pub told : List BitEvent
  pub happened : Happened [] journal told
  pub are : errors ≡ map error_in told

-- a run: its log, and of each node the error of each bit
pub record TrialRunValue : Type 0 where
  pub log : RunValue
  pub errors : List (List (Option Cause))

-- a run in one thread of the plan, and the errors in it
pub record IsRan (plan : PlanValue) (r : TrialRunValue) : Type 0 where
  pub run : IsSerialRun plan r.log
  pub errors : AllZip (λ (n : NodeValue) (errors : List (Option Cause)). HasErrors n.journal errors) r.log.nodes
      r.errors
