pub mod Drivers
pub mod Giving
pub mod Calls
pub mod Ports
pub mod Answers
pub mod TypedActs
pub mod Carried
pub mod AnyDrivers
pub mod Tries
pub mod Acting
pub mod Logs
pub mod Holding
pub mod LoggedDrivers
pub mod Observing
pub mod Answered
pub mod GivenNothing
pub mod Inside
pub mod Timing
pub mod Windows
pub mod Settings
pub mod Aborting
pub mod InTime
pub mod NodeRest
pub mod Moments
pub mod Dated
pub mod Alike
pub mod Tracing
pub mod Linking
pub mod Porting
pub mod Asking
pub mod Shown
pub mod Counted
-- ---- reads and writes of a driver that knows addresses and bytes alone
pub mod ClockDivider
pub mod StartAddress
pub mod Kept
pub mod Reads
pub mod ModeWrites
pub mod CommandWrites
pub mod Writes
pub mod WriteLists
pub mod Ignoring
pub mod Written
pub mod StepRuns

-- ---- the face: the lemmas that proofs of other crates cite
-- face: proofs.Account.Dry.{none_taken_own}
-- face: proofs.Account.Own.{AreOwn, own_stopped}
-- face: proofs.Bytes.Writing.{ignored_then, kept_then, written_both}
-- face: proofs.LogOfSteps.Sections.{active_push, opened_push}
-- face: proofs.OneBit.BitAsked.{HasCut, place_abort, place_bit}
-- face: proofs.OneNode.Room.{has_room}
-- face: proofs.OneNode.Slices.{no_acts}
-- face: proofs.Registers.Activation.{activation_step}
-- face: proofs.Registers.TbsAndAbort.{TbsIsRight}
-- face: proofs.Registers.TransmitBuffer.{abort_gives_none, busy_sends_none, reset_sends_none, tbs_by}
-- face: proofs.Step.Few.{credits_taken}
-- face: proofs.Step.GivenKinds.{Kind}
-- face: proofs.Step.GivenKinds.Kind.{credits, quiet, sends, starts, stops}
-- face: proofs.Step.Giving.{gives_carried}
-- face: proofs.Step.Modes.{abort_step, closed_step, rm_step, version_step}
-- face: proofs.Step.NextItem.{IsOffLast, bytes_put}
-- face: proofs.Step.NothingDone.{nothing_known, nothing_told}
-- face: proofs.Trace.AbortsDue.{aborts_push}
-- face: proofs.Trace.Later.{SameBy, done_more, done_push}
-- face: proofs.Trace.Moments.{HasBitsAfterAborts}
-- face: proofs.Trace.Stepping.{given_taken}
-- face: proofs.Trace.Timings.{put_now}
