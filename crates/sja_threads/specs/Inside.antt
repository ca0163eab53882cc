-- How the code keeps a run in threads: definitions of the private contracts alone.
-- ---- the order of what happens at a port
pub mod Halves
pub mod Names
pub mod Ordered
pub mod Boards
-- ---- a driver in its thread
pub mod Steps
pub mod StepRuns
-- ---- the beginning of a run
pub mod Making
pub mod Started
pub mod Promised
-- ---- the bus beside its drivers, and after them
pub mod Rounds
pub mod EndsJoined
pub mod JoinedRun
pub mod EndsInOrder
-- ---- the end of a run
pub mod Ended
pub mod Settling
