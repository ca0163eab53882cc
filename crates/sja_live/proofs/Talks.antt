-- A talk, from its first line on.
pub mod NewSessions
pub mod SameEnd
pub mod GoingOn
pub mod BreakingOff
