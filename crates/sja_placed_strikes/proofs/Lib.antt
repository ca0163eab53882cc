pub mod Gathers
pub mod Steps
pub mod Texts
