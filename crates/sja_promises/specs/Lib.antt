-- ---- the headline, and what it is by
pub mod Headline
pub mod Settling
-- ---- runs, from their first step on
pub mod Turns
pub mod Registering
pub mod Runs
pub mod Waiting
-- ---- what a log is made of
pub mod Finishing
pub mod LeftDown
pub mod Nodes
pub mod NewDrivers

-- ---- the face: the lemmas that proofs of other crates cite
-- face: proofs.NodeLog.Logging.{next_of}
-- face: proofs.NodeLog.Logs.{journal_there}
-- face: proofs.NodeLog.NodeEnds.{AreEnds, journal_is, journals_in_log, node_end, nodes_count, run_of_ends, settled_of}
-- face: proofs.NodeLog.NodeEnds.{some_driver, trace_of}
-- face: proofs.NodeLog.Onward.{Extends, aborts_bit, aborts_items, bits_bit, moment_then, put_then}
-- face: proofs.OneNode.Gathered.{linked_after, node_with}
-- face: proofs.OneNode.OneAct.{lead_one}
-- face: proofs.OneNode.Registers.{asked_first}
-- face: proofs.OneNode.Trying.{StepsHere}
-- face: proofs.Trace.Stays.{version_led}
-- face: proofs.Trace.StepRunActs.{acts_push, forget}
-- face: proofs.Trace.Windows.{window_later}
