pub mod Twin
pub mod Driver
pub mod Start
pub mod Rounds
pub mod Events
pub mod End
