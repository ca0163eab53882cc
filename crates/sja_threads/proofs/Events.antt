pub mod Comes
pub mod Order
pub mod AfterStop
pub mod AtEntry
pub mod AtCredit
pub mod AlongPart
pub mod ActivationLinked
