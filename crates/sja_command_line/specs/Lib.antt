pub mod CommandLine
pub mod Values
pub mod Requests
pub mod Commands
pub mod Sweeping
pub mod Words
-- ---- definitions of private contracts alone
pub mod Inside
