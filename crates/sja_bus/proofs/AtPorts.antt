-- What ports are told, and what they order.
pub mod Applying
pub mod Aborting
pub mod Turning
pub mod TurnsTold
pub mod BusNodeBits
pub mod OtherWords
