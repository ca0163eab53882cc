-- Definitions of private contracts alone.
pub mod Attempts
pub mod Entering
pub mod Modes
