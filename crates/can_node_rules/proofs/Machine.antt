pub mod Along
pub mod Changes
