-- bus integration, flags, delimiters and interframe space
pub mod Delimiters
pub mod ElevenSteps
pub mod Firsts
pub mod Integrations
pub mod InterframeSpaces
pub mod Waits
