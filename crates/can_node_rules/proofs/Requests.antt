-- Requests along a record: which is held, which went, and how often.
pub mod Cuts
pub mod FramesReceived
pub mod OnceOff
pub mod OneMore
pub mod Requests
