pub mod Patience
pub mod Credits
