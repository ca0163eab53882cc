-- an act more, and a bit more, beside what was put
pub mod Account
pub mod Trace
-- the end of a run
pub mod NodeLog
pub mod OneNode
