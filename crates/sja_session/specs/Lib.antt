-- ---- the plan that is written
pub mod Turning
pub mod Writing
-- ---- where a session stands
pub mod Sessions
-- ---- what its calls do
pub mod Beginning
pub mod Ending
pub mod Answering
pub mod Stepping
pub mod Running
pub mod SessionRest
pub mod Lines
pub mod Watching
pub mod Striking
pub mod SessionPlaces
pub mod ByAddress
pub mod Inside

-- ---- the face: the lemmas that proofs of other crates cite
-- face: proofs.WrittenPlan.OneMore.{steps_many}
