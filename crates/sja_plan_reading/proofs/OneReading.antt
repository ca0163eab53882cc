-- A document is one plan at most, or has one first fault.
pub mod OneMessage
pub mod OneMeaning
pub mod OnePlan
pub mod FirstBad
pub mod DocumentFaults
pub mod OneFault
pub mod PassedOn
