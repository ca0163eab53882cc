-- One step of a driver.
pub mod Releasing
pub mod Observed
pub mod Giving
pub mod Left
pub mod Came
pub mod NothingDone
pub mod Written
pub mod Modes
pub mod Few
pub mod GivenKinds
pub mod NextItem
pub mod CreditsGiven
pub mod FewLeftDown
