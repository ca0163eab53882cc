-- What the signals of nodes show, bit by bit.
pub mod PastBits
pub mod NextSignals
pub mod ViewsIn
pub mod Short
pub mod Reading
pub mod Going
pub mod Rested
