-- One node, as its driver goes on and as bits run.
pub mod After
pub mod Done
pub mod Gathered
pub mod Ported
pub mod AskedAndCounted
pub mod StepTried
pub mod Trying
pub mod InUse
pub mod Turned
pub mod Refused
pub mod InOrder
pub mod Registers
pub mod RegistersInBits
pub mod Taken
pub mod Newly
pub mod BitOn
pub mod OneAct
