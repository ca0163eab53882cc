-- A reader of one level at a time.
pub mod Take
pub mod Taken
pub mod Past
pub mod Told
pub mod Quick
pub mod QuickPast
pub mod Places
pub mod Along
pub mod Chosen
